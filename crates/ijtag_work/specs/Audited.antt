-- What it means that an audit says yes; and what it says of the text that is compiled of the same files.
use Rattle.std.specs.Prelude.{◌≡◌, ℕ, Bool, false, List, Ok, Option, Some}
use Rattle.ij_io.specs.Files.{Files, bytes_of}
use Rattle.instruments.specs.Machine.{Machine, whole_log}
use Rattle.net_bench.specs.Bench.{fault_free}
use Rattle.svf_audit.specs.Law.{DoesAll}
use Rattle.svf_audit.specs.Audit.{Reading, Yes, audit as audit_commands}
use Rattle.svf_audit.specs.Report.{says_no}
use Rattle.svf_reader.specs.Meaning.{svf}
use Rattle.svf_writer.specs.SeenCommands.{SeenCommand}
use Rattle.ijtag_work.specs.Accepted.{SeenAccepted}
use Rattle.ijtag_work.specs.Command.{Command, Compiles, Audit, Audits, MuxTests, own_compile}
use Rattle.ijtag_work.specs.Tested.{IsTested}
use Rattle.ijtag_work.specs.Order.{audit, filed, task, told, written_text}
use Rattle.ijtag_work.specs.Promises.{AcceptedWith}
use Rattle.ijtag_work.specs.Runs.{Counts, IsOrMemory, LoadRose, WriteRose}
use Rattle.ijtag_work.specs.Task.{work}
use Rattle.ijtag_work.specs.declared.status.Status.{Status}
use Rattle.ijtag_work.specs.declared.status.Status.TheVariants.{Good}

-- the audit says yes of commands of SVF, and these, played clock by clock from power-up, do what the
-- procedure means, and compare exactly what it reads, whatever the instruments are
pub record DoAsMeant (it : SeenAccepted) (commands : List SeenCommand) : Type 0 where
  pub readings : List Reading
  pub yes : audit_commands it.network.net it.device it.steps commands ≡ Yes readings
  pub does : (machines : List Machine)
      → DoesAll (fault_free whole_log it.network.net it.device machines) it.steps commands readings

-- so it is of the commands that are audited
abbrev pub PlayAsMeant : SeenAccepted → Type 0
PlayAsMeant it = DoAsMeant it it.commands

-- the texts are accepted as such commands and a procedure
abbrev pub IsAudited : Option Files → Audit → Type 0
IsAudited files a = AcceptedWith (audit a) files PlayAsMeant

-- where the words are an audit, it is so
abbrev pub AuditIsTrue : Option Files → Option Command → Type 0
AuditIsTrue files (Some (Audits a)) = IsAudited files a
AuditIsTrue files _ = Unit {0}

-- the audited file holds the text that a compile of the same procedure writes to it
abbrev pub IsOwnText : Files → Audit → Type 0
IsOwnText files a =
    (work (Some files) (task (Compiles (own_compile a)))).gives (filed a.svf (bytes_of files a.svf))

-- where the words are an audit of it, the run ends as good where no fault is counted, or there was no memory
abbrev pub PassesOwnText : Option Command → Option Files → Counts → Status → Type 0
PassesOwnText (Some (Audits a)) (Some files) c result =
    IsOwnText files a → ¬ LoadRose (task (Audits a)) c
    → ¬ WriteRose (task (Audits a)) c → IsOrMemory result Good
PassesOwnText _ _ c result = Unit {0}

-- so an audit, which is accepted, says yes of it
abbrev pub OwnTextsPass : Type 0
OwnTextsPass = (files : Files) (a : Audit) → IsOwnText files a
    → (text : List ℕ) × (work (Some files) (task (Audits a))).gives (told text false)

-- and so it says of the commands of any text that is written for bit steps
abbrev pub WrittenTextsPass : Type 0
WrittenTextsPass =
    (it : SeenAccepted) (bytes : List ℕ) (commands : List SeenCommand)
    → (written_text it).gives bytes → svf bytes ≡ Ok commands
    → says_no (audit_commands it.network.net it.device it.steps commands) ≡ false

-- what is promised of a command that ends with this verdict, by the files before it and the contents of any
-- file after it: of an audit without a difference, that what it audits is so, and of a mux test, that its SVF
-- file is the test of what was accepted
abbrev pub IsPromised : Command → Option Files → (List ℕ → Option (Option (List ℕ))) → Bool → Type 0
IsPromised (Audits a) files file differs = differs ≡ false → IsAudited files a
IsPromised (MuxTests m) files file differs = IsTested files (file m.svf) m
IsPromised _ files file differs = Unit {0}
