-- An SVF text of a procedure that is planned as a whole: what it must be, whichever planner made it.
use Rattle.std.specs.Prelude.{◌≡◌, ◌≤◌, ℕ, List, Ok, length}
use Rattle.least_clocks.specs.Least.{least_clocks}
use Rattle.svf_audit.specs.Audit.{Reading, Yes, audit as audit_commands}
use Rattle.svf_reader.specs.Meaning.{svf}
use Rattle.svf_writer.specs.Fits.{AreFit}
use Rattle.svf_writer.specs.SeenCommands.{SeenCommand}
use Rattle.tap_machine.specs.declared.Stable.TheVariants.{Reset as InReset}
use Rattle.tap_machine.specs.Play.{pins, scans_in}
use Rattle.ijtag_work.specs.Accepted.{SeenAccepted}
use Rattle.ijtag_work.specs.Audited.{DoAsMeant}
use Rattle.ijtag_work.specs.Order.{written_text}

-- what commands take on the tester, from power-up: scans, SIR and SDR, and clocks of TCK
pub record Cost : Type 0 where
  pub scans : ℕ
  pub clocks : ℕ

abbrev pub cost_of : List SeenCommand → Cost
cost_of commands = record { scans = scans_in commands; clocks = length (pins InReset 0 commands) }

-- no SVF to which the audit says yes takes fewer clocks than this many
abbrev pub least_of : SeenAccepted → ℕ
least_of it = least_clocks it.network.net it.network.form it.device it.steps

abbrev pub NoneTakesFewer : SeenAccepted → Type 0
NoneTakesFewer it =
    (commands : List SeenCommand) (readings : List Reading) → AreFit commands
    → audit_commands it.network.net it.device it.steps commands ≡ Yes readings
    → least_of it ≤ length (pins InReset 0 commands)

-- In the text a reader of SVF finds commands that do what the procedure means, by the audit and hence on
-- every chip with this network. They take no more scans and no more clocks than those of a text that a
-- compile writes.
pub record IsTight (it : SeenAccepted) (bytes : List ℕ) : Type 0 where
  pub commands : List SeenCommand
  pub read : svf bytes ≡ Ok commands
  pub does : DoAsMeant it commands
  pub compiled : List ℕ
  pub written : (written_text it).gives compiled
  pub before : List SeenCommand
  pub read_compiled : svf compiled ≡ Ok before
  pub no_more_scans : scans_in commands ≤ scans_in before
  pub no_more_clocks : length (pins InReset 0 commands) ≤ length (pins InReset 0 before)
