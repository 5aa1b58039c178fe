-- The table of commands: the texts that each accepts, what it writes and prints, and what it leaves of what
-- they are accepted as. How they are loaded and accepted is said once for all commands: see Inputs and
-- Accepted.
use Rattle.std.specs.Prelude.{◌≡◌, ◌⊎◌, ◌<◌, ◌≤◌, ◌++◌, ℕ, Bool, true, false, List, [], ◌∷◌, length, Option}
use Rattle.std.specs.Prelude.{Some, None, Ok, codes}
use Rattle.svf_writer.specs.SeenCommands.{SeenCommand}
use Rattle.table_file.specs.Tables.{SeenTable}
use Rattle.net_bench.specs.Playing.{Compare}
use Rattle.bench_report.specs.Report.{differs_of, play_report}
use Rattle.run_report.specs.Report.{IsRunReport}
use Rattle.svf_reader.specs.Meaning.{svf}
use Rattle.design_maker.specs.Tables.{device_text as made_device}
use Rattle.design_maker.specs.Texts.{made_icl, made_pdl, made_tables}
use Rattle.direct_report.specs.Report.{direct_report, direct_differs}
use Rattle.bench_report.specs.MadeReport.{made_report}
use Rattle.pdl_targets.specs.Laws.{rounds_in}
use Rattle.headline.specs.Retargeting.{DoesSteps}
use Rattle.mux_test.specs.Reported.{test_report}
use Rattle.mux_test.specs.Test.{IsWithinLimit, scanned, test_text}
use Rattle.ijtag_stages.specs.Work.{give, never, ◌>>=◌}
use Rattle.bench_file.specs.Written.{tables_text as written_tables}
use Rattle.svf_audit.specs.Audit.{Verdict, audit as audit_commands}
use Rattle.svf_audit.specs.Report.{audit_text, says_no}
use Rattle.ijtag_stages.specs.Refusals.{Part, refused_limit, refused_name, refused_number}
use Rattle.ijtag_stages.specs.TablesText.{tables_text}
use Rattle.ijtag_stages.specs.declared.refusal.Stage.TheVariants.{File, Make as MakeStage, Muxtest}
use Rattle.ijtag_work.specs.Accepted.{SeenAccepted, Texts, accepted_of}
use Rattle.ijtag_work.specs.Command.{Command, Compile, Compiles, Play, Plays, Direct, Directs, Run, Runs}
use Rattle.ijtag_work.specs.Command.{Make, Makes, made_names, made_svf, Migrate, Migrates, Audit, Audits}
use Rattle.ijtag_work.specs.Command.{MuxTest, MuxTests}
use Rattle.ijtag_work.specs.Leaves.{Leaves, Written}
use Rattle.ijtag_work.specs.Inputs.{OfAudit, OfDirect, OfNetwork, OfPlay, OfProcedure}
use Rattle.ijtag_work.specs.Loads.{source}
use Rattle.ijtag_work.specs.Task.{Row, Task, task_of}

-- a text is printed, and no file is written
abbrev pub told : List ℕ → Bool → Leaves
told text differs = record { files = []; printed = text; differs = differs }

-- a file has it, and nothing is printed
abbrev pub filed : List ℕ → List ℕ → Leaves
filed name bytes =
    record { files = record { name = name; bytes = bytes } ∷ []; printed = []; differs = false }

-- whether there is one
abbrev pub any_differs : {A : Type 0} → List A → Bool
any_differs [] = false
any_differs (x ∷ xs) = true

-- ---- compile: the SVF file has the one text that is written for the bit steps: their scans, each round's as
-- few as can be

unfoldable pub written_text : SeenAccepted → Part (List ℕ)
written_text it = record {
  gives =
      λ bytes. DoesSteps it.network.net it.network.form it.device it.steps bytes;
  refuses = λ r. ⊥;
}

abbrev pub compiled : List ℕ → SeenAccepted → Part Leaves
compiled name it = do
  bytes ← written_text it
  give (filed name bytes)

abbrev pub compile : Compile → Row
compile c = record {
  inputs = OfProcedure c.procedure;
  writes = c.svf ∷ [];
  prints = false;
  leaves = compiled c.svf;
}

-- ---- play: the report of the play of the SVF text from power-up is printed

-- the compares of some commands that differ
abbrev pub differs_at : SeenAccepted → List SeenCommand → List Compare
differs_at it commands = differs_of it.network.net it.device it.models commands

unfoldable pub report_of : SeenAccepted → List ℕ
report_of it = play_report it.network.net it.device it.models it.commands

abbrev pub played : SeenAccepted → Leaves
played it = told (report_of it) (any_differs (differs_at it it.commands))

abbrev pub play : Play → Row
play p = record {
  inputs = OfPlay p;
  writes = [];
  prints = true;
  leaves = λ it. give (played it);
}

-- ---- direct: the report of what the procedure means, with no chain and no clock, is printed

unfoldable pub meaning_of : SeenAccepted → List ℕ
meaning_of it = direct_report it.network.net it.models it.steps

abbrev pub reads_differ : SeenAccepted → Bool
reads_differ it = any_differs (direct_differs it.network.net it.models it.steps)

abbrev pub meant : SeenAccepted → Leaves
meant it = told (meaning_of it) (reads_differ it)

abbrev pub direct : Direct → Row
direct d = record {
  inputs = OfDirect d;
  writes = [];
  prints = true;
  leaves = λ it. give (meant it);
}

-- ---- run: the SVF file is written as of a compile, and the text's commands are played

-- the commands that a reader finds in a text
unfoldable pub commands_of : List ℕ → Part (List SeenCommand)
commands_of bytes = record { gives = λ commands. svf bytes ≡ Ok commands; refuses = λ r. ⊥ }

-- the report of the play, in which each compare that differs names the iRead of the bit steps that is at
-- its place
unfoldable pub run_report : SeenAccepted → List SeenCommand → Part (List ℕ)
run_report it commands = record {
  gives = λ text. IsRunReport it.network.net it.network.form it.device
      it.models it.steps commands text;
  refuses = λ r. ⊥;
}

-- whether a compare of the play differs
abbrev pub run_differs : SeenAccepted → List SeenCommand → Bool
run_differs it commands = any_differs (differs_at it commands)

-- the file has the text, and the report is printed
abbrev pub ran : List ℕ → List ℕ → List ℕ → Bool → Leaves
ran name bytes text differs =
    record { files = record { name = name; bytes = bytes } ∷ []; printed = text; differs = differs }

unfoldable pub run_of : List ℕ → SeenAccepted → Part Leaves
run_of name it = do
  bytes ← written_text it
  commands ← commands_of bytes
  text ← run_report it commands
  give (ran name bytes text (run_differs it commands))

abbrev pub run : Run → Row
run r = record {
  inputs = OfDirect r.direct;
  writes = r.svf ∷ [];
  prints = true;
  leaves = run_of r.svf;
}

-- ---- audit: one line is printed that tells what the audit of the SVF text for the procedure says

abbrev pub verdict_of : SeenAccepted → Verdict
verdict_of it = audit_commands it.network.net it.device it.steps it.commands

unfoldable pub line_of : SeenAccepted → List ℕ
line_of it = audit_text it.network.net it.device it.steps it.commands

abbrev pub audited : SeenAccepted → Leaves
audited it = told (line_of it) (says_no (verdict_of it))

abbrev pub audit : Audit → Row
audit a = record {
  inputs = OfAudit a;
  writes = [];
  prints = true;
  leaves = λ it. give (audited it);
}

-- ---- make: the size, then four files are written; their texts are accepted as those of a run, and of its
-- play the totals are printed

-- the four texts of a made design
abbrev pub made_texts : Make → List (List ℕ)
made_texts m = made_icl m.seed m.size ∷ made_pdl m.seed m.size ∷ made_device ∷ made_tables m.seed m.size ∷ []

-- names with their texts
abbrev pub written_as : List (List ℕ) → List (List ℕ) → List Written
written_as [] texts = []
written_as (name ∷ names) [] = []
written_as (name ∷ names) (text ∷ texts) = record { name = name; bytes = text } ∷ written_as names texts

-- the four files, of 1 to 64 instruments
unfoldable pub made_files : Make → Part (List Written)
made_files m = record {
  gives = λ ws. (1 ≤ m.size) × (m.size ≤ 64) × (ws ≡ written_as (made_names m.stem) (made_texts m));
  refuses = λ r. ((m.size < 1) ⊎ (64 < m.size)) × (r ≡ refused_number MakeStage (codes "BadSize") m.size);
}

-- a text that was written, as it is read: it may be no longer than a file may be
unfoldable pub taken_one : Written → Part (List ℕ)
taken_one w = record {
  gives = λ text. (length w.bytes ≤ 16777216) × (text ≡ w.bytes);
  refuses = λ r. (16777216 < length w.bytes) × (r ≡ refused_name File (codes "Long") w.name);
}

abbrev pub taken : List Written → Part (List (List ℕ))
taken [] = give []
taken (w ∷ ws) = do
  text ← taken_one w
  texts ← taken ws
  give (text ∷ texts)

-- they are the texts of a direct
abbrev pub made_inputs : List (List ℕ) → Option Texts
made_inputs (icl ∷ pdl ∷ device ∷ tables ∷ []) =
    Some (record {
      icl = icl;
      device = device;
      tables = Some tables;
      svf = None;
      top = codes "chip";
      pdl = Some pdl;
      procedure = codes "p";
    })
made_inputs _ = None

-- what they are accepted as
unfoldable pub accepted_made : List Written → Part SeenAccepted
accepted_made ws = do
  texts ← taken ws
  accepted_of (made_inputs texts)

-- the files are there, and the totals are printed
abbrev pub made : List Written → List ℕ → List ℕ → List ℕ → Bool → Leaves
made files svf bytes text differs =
    record { files = files ++ record { name = svf; bytes = bytes } ∷ []; printed = text; differs = differs }

-- the line of the design: the groups of its procedure are the rounds of all its iApplys
unfoldable pub made_totals : SeenAccepted → List SeenCommand → List ℕ
made_totals it commands = made_report it.network.net it.device it.models commands (rounds_in it.steps)

unfoldable pub made_of : List Written → List ℕ → SeenAccepted → Part Leaves
made_of files svf it = do
  bytes ← written_text it
  commands ← commands_of bytes
  give (made files svf bytes (made_totals it commands) (run_differs it commands))

abbrev pub make_work : Make → List (List ℕ) → Part Leaves
make_work m texts = do
  files ← made_files m
  it ← accepted_made files
  made_of files (made_svf m.stem) it

abbrev pub make : Make → Task
make m = record {
  loads = [];
  begins = made_files m;
  first_writes = made_names m.stem;
  writes = made_names m.stem ++ made_svf m.stem ∷ [];
  prints = true;
  work_on = make_work m;
}

-- ---- migrate: the tables, which are written once more

abbrev pub read_tables_of : List (List ℕ) → Part (List SeenTable)
read_tables_of (tables ∷ []) = tables_text tables
read_tables_of _ = never

abbrev pub migrate_work : Migrate → List (List ℕ) → Part Leaves
migrate_work m texts = do
  tables ← read_tables_of texts
  give (filed m.written (written_tables tables))

abbrev pub migrate : Migrate → Task
migrate m = record {
  loads = source m.tables ∷ [];
  begins = never;
  first_writes =
      [];
  writes = m.written ∷ [];
  prints = false;
  work_on = migrate_work m;
}

-- ---- mux test: the SVF file has the text of the test of the network's multiplexers, and its report is
-- printed

-- a test isn't too long
unfoldable pub within_limit : SeenAccepted → Part (Unit {0})
within_limit it = record {
  gives = λ _. IsWithinLimit it.network.net it.network.form;
  refuses = λ r. (8192 < length (scanned it.network.net it.network.form))
      × (r ≡ refused_limit Muxtest (codes "Scans") 8192);
}

unfoldable pub test_text_of : SeenAccepted → List ℕ
test_text_of it = test_text it.network.net it.network.form it.device

unfoldable pub test_report_of : SeenAccepted → List ℕ
test_report_of it = test_report it.network.net it.network.form

abbrev pub mux_tested : List ℕ → SeenAccepted → Part Leaves
mux_tested name it = do
  short ← within_limit it
  give (ran name (test_text_of it) (test_report_of it) false)

abbrev pub mux_test : MuxTest → Row
mux_test m = record {
  inputs = OfNetwork m.network;
  writes = m.svf ∷ [];
  prints = true;
  leaves = mux_tested m.svf;
}

-- ---- the table

abbrev pub task : Command → Task
task (Compiles c) = task_of (compile c)
task (Plays p) = task_of (play p)
task (Directs d) = task_of (direct d)
task (Runs r) = task_of (run r)
task (Makes m) = make m
task (Migrates m) = migrate m
task (Audits a) = task_of (audit a)
task (MuxTests m) = task_of (mux_test m)
