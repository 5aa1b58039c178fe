-- Texts that were looked at, as contracts see them.
use Rattle.std.specs.Prelude.{◌≡◌, Bool, true, false, List, Ok}
use Rattle.svf_reader.specs.Meaning.{svf}
use Rattle.svf_writer.specs.SeenCommands.{SeenCommand, Reset}
use Rattle.ijtag_work.specs.Accepted.{SeenAccepted}
use Rattle.ijtag_work.specs.Audited.{DoAsMeant}
use Rattle.ijtag_work.specs.Order.{written_text}
use Rattle.ijtag_tools.specs.Tight.{Cost, IsTight, cost_of, least_of}
use Rattle.ijtag_tools.specs.declared.cost.Cost.{Cost as RustCost}
use Rattle.ijtag_tools.specs.declared.planned.Planned.{Planned}
use Rattle.ijtag_tools.specs.declared.planned.Tightened.{Tightened}

abbrev pub seen_cost : RustCost → Cost
seen_cost c = record { scans = c.scans; clocks = c.clocks }

-- whether a command leaves the controller in Test-Logic-Reset
abbrev pub ends_in_reset : SeenCommand → Bool
ends_in_reset Reset = true
ends_in_reset _ = false

-- a text whose commands do what the procedure means, and what they take
pub record IsSound (it : SeenAccepted) (p : Planned) : Type 0 where
  pub commands : List SeenCommand
  pub read : svf p.svf ≡ Ok commands
  pub does : DoAsMeant it commands
  pub takes : seen_cost p.cost ≡ cost_of commands

-- the text that a compile writes
pub record IsCompiled (it : SeenAccepted) (p : Planned) : Type 0 where
  pub sound : IsSound it p
  pub written : (written_text it).gives p.svf

-- a text that takes no more than the one that a compile writes, what both take, and what any takes at least
pub record IsTightened (it : SeenAccepted) (t : Tightened) : Type 0 where
  pub tight : IsTight it t.svf
  pub takes : seen_cost t.cost ≡ cost_of tight.commands
  pub took : seen_cost t.before ≡ cost_of tight.before
  pub least : t.least ≡ least_of it
