-- How far a count of clocks has come.
use Rattle.std.specs.Prelude.{◌≡◌, ℕ, ◌+◌, List, ◌++◌}
use Rattle.net_graph.specs.declared.net.Net.{Net}
use Rattle.net_tree.specs.Form.{Items}
use Rattle.net_graph.specs.declared.device.Device.{Device}
use Rattle.svf_audit.specs.Work.{Work}
use Rattle.least_clocks.specs.declared.count.Count.{Count}
use Rattle.least_clocks.specs.Least.{State, least_from}

-- the state of the definition
abbrev pub state_of : Count → State
state_of c = record { fresh = c.fresh; linked = c.linked; rest = c.rest; holds = c.holds }

-- what is counted, and what the work that is left takes
abbrev pub in_all : Net → Items → Device → Count → List Work → ℕ
in_all net form device c left = c.clocks + least_from net form device (state_of c) left

-- this work is counted in between
abbrev pub Counts : Net → Items → Device → List Work → Count → Count → Type 0
Counts net form device work old new = (left : List Work)
    → in_all net form device new left ≡ in_all net form device old (work ++ left)
