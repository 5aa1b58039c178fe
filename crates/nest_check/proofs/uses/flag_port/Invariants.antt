use Rattle.std.proofs.Common.{◌≡◌, drop}
use Rattle.net_graph.specs.Held.{AreHolds}
use Rattle.nest_check.specs.Uses.{driving_all}
use Rattle.nest_check.proofs.uses.flag_port.Given as goal

abbrev pub invariant-loop-input : goal.invariant-loop-input
invariant-loop-input l =
    AreHolds l.net l.flags
    × (driving_all l.flags (drop l.input-index l.input-items) ≡ driving_all l.fn.flags l.port.bits.items)
