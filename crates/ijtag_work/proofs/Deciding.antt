-- The work of a command comes to one end at most: what is given is one value, and then nothing is refused;
-- and a refusal is one.
use Rattle.std.proofs.Common.{refl, subst, ◌≡◌, ◌⊎◌, inl, inr, ◌<◌, ◌≤◌, ◌∙◌, sym, ap, ℕ, Option, Some, None}
use Rattle.std.proofs.Common.{Result, Ok, List, [], ◌∷◌, length, arith}
use Rattle.ij_io.specs.Files.{Files, bytes_of}
use Rattle.headline.specs.Retargeting.{TextsAreOne}
use Rattle.bench_report.specs.Report.{named_report}
use Rattle.run_report.specs.Laws.{PlacesAreOne}
use Rattle.run_report.specs.Places.{read_at}
use Rattle.run_report.specs.Report.{IsRunReport}
use Rattle.run_report.specs.declared.place.ReadPlace.{ReadPlace}
use Rattle.svf_reader.specs.Meaning.{Refusal as SvfRefusal}
use Rattle.svf_writer.specs.SeenCommands.{SeenCommand}
use Rattle.ijtag_stages.specs.DeviceText.{device_text}
use Rattle.ijtag_stages.specs.Fitted.{models_of}
use Rattle.ijtag_stages.specs.IclText.{icl_text}
use Rattle.ijtag_stages.specs.Laws.{StagesAreDecided}
use Rattle.ijtag_stages.specs.Networks.{network_below}
use Rattle.ijtag_stages.specs.declared.network.Network.{Network}
use Rattle.ijtag_stages.specs.PdlText.{pdl_text}
use Rattle.ijtag_stages.specs.SvfText.{svf_text}
use Rattle.ijtag_stages.specs.TablesText.{tables_text}
use Rattle.ijtag_stages.specs.Refusals.{Part}
use Rattle.ijtag_stages.specs.Work.{◌>>=◌, IsDecided}
use Rattle.ijtag_stages.proofs.Turns.{give_decided, never_decided, in_turn_decided}
use Rattle.ijtag_work.specs.Accepted.{SeenAccepted, Texts, accepted, accepted_of, followed, if_given}
use Rattle.ijtag_work.specs.Command.{Command, Compiles, Plays, Directs, Runs, Make, Makes, made_svf, Migrates}
use Rattle.ijtag_work.specs.Command.{Audits, MuxTests}
use Rattle.ijtag_work.specs.Inputs.{texts_of}
use Rattle.ijtag_work.specs.Leaves.{Leaves, Written}
use Rattle.ijtag_work.specs.Loads.{Load, loaded, loaded_one}
use Rattle.ijtag_work.specs.Order.{accepted_made, audit, commands_of, compile, compiled, direct, made_files}
use Rattle.ijtag_work.specs.Order.{made_inputs, made_of, make_work, mux_test, mux_tested, play}
use Rattle.ijtag_work.specs.Order.{read_tables_of, run, run_of, run_report, taken, taken_one, task}
use Rattle.ijtag_work.specs.Order.{within_limit, written_text}
use Rattle.mux_test.specs.Test.{scanned}
use Rattle.ijtag_work.specs.Runs.{AreDecided, AreSettled, IsSettled}
use Rattle.ijtag_work.specs.Task.{Row, Task, row_work, work}

-- ---- work that is decided is settled, and so is what follows it

pub settled_of : (part : Part Leaves) → IsDecided part → IsSettled part
settled_of part d =
    record { alike = λ a b p q. ap (λ (l : Leaves). l.differs) (d.one a b p q); apart = d.apart }

pub all_settled : {C : Type 0} (task : C → Task) → AreDecided task → AreSettled task
all_settled task d = λ files command. settled_of (work (Some files) (task command)) (d files command)

pub in_turn_settled : {A : Type 0} (first : Part A) (next : A → Part Leaves) → IsDecided first
    → ((a : A) → IsSettled (next a)) → IsSettled (first >>= next)
in_turn_settled {A} first next f n =
    record {
      alike = λ x y p q. (n q.0).alike x y (subst (λ a. (next a).gives x) (f.one p.0 q.0 p.1 q.1) p.2) q.2;
      apart = λ x r p q. elim q [
        | inl own ↦ f.apart p.0 r p.1 own
        | inr later ↦
            (n later.0).apart x r (subst (λ a. (next a).gives x) (f.one p.0 later.0 p.1 later.1) p.2) later.2
      ];
    }

-- ---- loads

fits_not : (text bytes : List ℕ) (limit : ℕ) → length text ≤ limit → text ≡ bytes → limit < length bytes → ⊥
fits_not text bytes limit fits same long = let n : length text ≡ length bytes = ap length same in omega arith

one_decided : (files : Files) (load : Load) → IsDecided (loaded_one (Some files) load)
unfolding loaded_one
one_decided files load =
    record {
      one = λ a b p q. p.1 ∙ sym q.1;
      apart = λ a r p q. fits_not a
          (bytes_of files load.name) load.limit p.0 p.1 q.1;
      alike = λ r s p q. p.0 ∙ sym q.0;
    }

pub loads_decided : (files : Files) (loads : List Load) → IsDecided (loaded (Some files) loads)
loads_decided files [] = give_decided []
loads_decided files (load ∷ loads) =
    in_turn_decided (loaded_one (Some files) load) _ (one_decided files load) (λ text. in_turn_decided
    (loaded (Some files) loads) _ (loads_decided files loads) (λ texts. give_decided (text ∷ texts)))

-- ---- the files of a made design, and their texts as they are read

wrong_size : (size : ℕ) → 1 ≤ size → size ≤ 64 → (size < 1) ⊎ (64 < size) → ⊥
wrong_size size some few wrong =
    elim wrong [ inl none ↦ omega (arith, some, none) | inr many ↦ omega (arith, few, many) ]

pub made_decided : (m : Make) → IsDecided (made_files m)
unfolding made_files
made_decided m =
    record {
      one = λ a b p q. p.2 ∙ sym q.2;
      apart = λ a r p q. wrong_size m.size p.0 p.1 q.0;
      alike = λ r s p q. p.1 ∙ sym q.1;
    }

unit_one : (a b : Unit {0}) → a ≡ b
unit_one a b = refl

limit_decided : (it : SeenAccepted) → IsDecided (within_limit it)
unfolding within_limit
limit_decided it =
    record {
      one = λ a b p q. unit_one a b;
      apart = λ a r p q. over
          (length (scanned it.network.net it.network.form)) p q.0;
      alike = λ r s p q. p.1 ∙ sym q.1;
    }
  where
    over : (n : ℕ) → n ≤ 8192 → 8192 < n → ⊥
    over n few many = omega (arith, few, many)

too_long : (bytes : List ℕ) → length bytes ≤ 16777216 → 16777216 < length bytes → ⊥
too_long bytes fits long = omega (arith, fits, long)

taken_one_decided : (w : Written) → IsDecided (taken_one w)
unfolding taken_one
taken_one_decided w =
    record {
      one = λ a b p q. p.1 ∙ sym q.1;
      apart = λ a r p q. too_long w.bytes p.0 q.0;
      alike = λ r s p q. p.1 ∙ sym q.1;
    }

taken_decided : (ws : List Written) → IsDecided (taken ws)
taken_decided [] = give_decided []
taken_decided (w ∷ ws) =
    in_turn_decided (taken_one w) _ (taken_one_decided w)
    (λ text. in_turn_decided (taken ws) _ (taken_decided ws) (λ texts. give_decided (text ∷ texts)))

-- ---- the written text

written_decided : TextsAreOne → (it : SeenAccepted) → IsDecided (written_text it)
unfolding written_text
written_decided texts it =
    record {
      one = λ a b p q. texts it.network.net it.network.form it.device it.steps a b p q;
      apart = λ a r p q. q;
      alike = λ r s p q. absurd p;
    }

-- ---- the commands of a text, and the report of their play

ok_same : (a b : List SeenCommand) → ◌≡◌ {A = Result (List SeenCommand) SvfRefusal} (Ok a) (Ok b) → a ≡ b
ok_same a b e = cc

commands_decided : (bytes : List ℕ) → IsDecided (commands_of bytes)
unfolding commands_of
commands_decided bytes =
    record { one = λ a b p q. ok_same a b (sym p ∙ q); apart = λ a r p q. q; alike = λ r s p q. absurd p }

one_report : PlacesAreOne → (it : SeenAccepted) (commands : List SeenCommand) (a b : List ℕ)
    → IsRunReport it.network.net it.network.form it.device it.models it.steps commands a
    → IsRunReport it.network.net it.network.form it.device it.models it.steps commands b → a ≡ b
one_report places_one it commands a b p q =
    let net = it.network.net in
    let same = places_one net it.network.form p.plans q.plans p.planned.planned q.planned.planned
    (p.planned.of_steps ∙ sym q.planned.of_steps) in
    p.text ∙ ap (λ (ps : List ReadPlace). named_report (read_at ps) net it.device it.models commands) same
    ∙ sym q.text

report_decided : PlacesAreOne → (it : SeenAccepted) (commands : List SeenCommand)
    → IsDecided (run_report it commands)
unfolding run_report
report_decided places_one it commands =
    record { one = one_report places_one it commands; apart = λ a r p q. q; alike = λ r s p q. absurd p }

-- ---- the texts, and what is left of them

given_decided : {T A : Type 0} (it : Option T) (part : T → Part A)
    → ((t : T) → IsDecided (part t)) → IsDecided (if_given it part)
unfolding if_given
given_decided None part is = give_decided None
given_decided (Some t) part is = in_turn_decided (part t) _ (is t) (λ a. give_decided (Some a))

module _ (stages : StagesAreDecided) (texts_one : TextsAreOne) (places_one : PlacesAreOne) where
  followed_decided : (network : Network) (name pdl : List ℕ) → IsDecided (followed network name pdl)
  unfolding followed
  followed_decided network name pdl =
      in_turn_decided (pdl_text pdl) _ (stages.pdl pdl) (λ procs. stages.procedure procs network name)

  accepted_decided : (t : Texts) → IsDecided (accepted t)
  unfolding accepted
  accepted_decided t =
      in_turn_decided (icl_text t.icl) _ (stages.icl t.icl)
      (λ modules. in_turn_decided (device_text t.device) _ (stages.device t.device)
      (λ device. in_turn_decided (if_given t.tables tables_text) _
      (given_decided t.tables tables_text stages.tables)
      (λ tables. in_turn_decided (if_given t.svf svf_text) _ (given_decided t.svf svf_text stages.svf)
      (λ commands. in_turn_decided (network_below modules t.top device) _
      (stages.network modules t.top device)
      (λ network. in_turn_decided (if_given tables (models_of network.net)) _
      (given_decided tables (models_of network.net) (stages.fit network.net))
      (λ models. in_turn_decided (if_given t.pdl (followed network t.procedure)) _
      (given_decided t.pdl (followed network t.procedure) (followed_decided network t.procedure))
      (λ steps. give_decided _)))))))

  pub accepted_of_decided : (t : Option Texts) → IsDecided (accepted_of t)
  accepted_of_decided None = never_decided
  accepted_of_decided (Some t) = accepted_decided t

  -- a command that accepts texts
  row_decided : (row : Row) → ((it : SeenAccepted) → IsDecided (row.leaves it))
      → (texts : List (List ℕ)) → IsDecided (row_work row texts)
  row_decided row leaves texts = in_turn_decided (accepted_of (texts_of row.inputs texts)) _
      (accepted_of_decided (texts_of row.inputs texts)) leaves

  compiled_decided : (name : List ℕ) (it : SeenAccepted) → IsDecided (compiled name it)
  compiled_decided name it =
      in_turn_decided (written_text it) _ (written_decided texts_one it) (λ bytes. give_decided _)

  run_of_decided : (name : List ℕ) (it : SeenAccepted) → IsDecided (run_of name it)
  unfolding run_of
  run_of_decided name it =
      in_turn_decided (written_text it) _ (written_decided texts_one it)
      (λ bytes. in_turn_decided (commands_of bytes) _ (commands_decided bytes)
      (λ commands. in_turn_decided (run_report it commands) _
      (report_decided places_one it commands) (λ text. give_decided _)))

  made_of_decided : (files : List Written) (svf : List ℕ) (it : SeenAccepted)
      → IsDecided (made_of files svf it)
  unfolding made_of
  made_of_decided files svf it =
      in_turn_decided (written_text it) _ (written_decided texts_one it)
      (λ bytes. in_turn_decided (commands_of bytes) _ (commands_decided bytes)
      (λ commands. give_decided _))

  accepted_made_decided : (ws : List Written) → IsDecided (accepted_made ws)
  unfolding accepted_made
  accepted_made_decided ws =
      in_turn_decided (taken ws) _ (taken_decided ws) (λ texts. accepted_of_decided (made_inputs texts))

  make_decided : (m : Make) (texts : List (List ℕ)) → IsDecided (make_work m texts)
  make_decided m texts =
      in_turn_decided (made_files m) _ (made_decided m)
      (λ files. in_turn_decided (accepted_made files) _ (accepted_made_decided files)
      (made_of_decided files (made_svf m.stem)))

  mux_tested_decided : (name : List ℕ) (it : SeenAccepted) → IsDecided (mux_tested name it)
  mux_tested_decided name it =
      in_turn_decided (within_limit it) _ (limit_decided it) (λ short. give_decided _)

  tables_decided : (texts : List (List ℕ)) → IsDecided (read_tables_of texts)
  tables_decided (tables ∷ []) = stages.tables tables
  tables_decided [] = never_decided
  tables_decided (a ∷ b ∷ rest) = never_decided

  work_on_decided : (command : Command) (texts : List (List ℕ)) → IsDecided ((task command).work_on texts)
  work_on_decided (Compiles c) texts = row_decided (compile c) (compiled_decided c.svf) texts
  work_on_decided (Plays p) texts = row_decided (play p) (λ it. give_decided _) texts
  work_on_decided (Directs d) texts = row_decided (direct d) (λ it. give_decided _) texts
  work_on_decided (Runs r) texts = row_decided (run r) (run_of_decided r.svf) texts
  work_on_decided (Makes m) texts = make_decided m texts
  work_on_decided (Migrates m) texts =
      in_turn_decided (read_tables_of texts) _ (tables_decided texts) (λ tables. give_decided _)
  work_on_decided (Audits a) texts = row_decided (audit a) (λ it. give_decided _) texts
  work_on_decided (MuxTests m) texts = row_decided (mux_test m) (mux_tested_decided m.svf) texts

  pub work_decided : AreDecided task
  work_decided files command = in_turn_decided (loaded (Some files) (task command).loads) _
      (loads_decided files (task command).loads) (work_on_decided command)
