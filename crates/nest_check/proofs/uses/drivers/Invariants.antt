use Rattle.std.proofs.Common.{◌≡◌, drop}
use Rattle.std.specs.Prelude.{flat_map}
use Rattle.net_graph.specs.Held.{AreHolds}
use Rattle.net_graph.specs.Resets.{zero_holds}
use Rattle.nest_check.specs.Uses.{driving_all, inputs, inputs_of}
use Rattle.nest_check.proofs.uses.drivers.Given as goal

abbrev pub invariant-loop-inst : goal.invariant-loop-inst
invariant-loop-inst l =
    AreHolds l.net l.flags
    × (driving_all l.flags (flat_map inputs_of (drop l.inst-index l.inst-items))
    ≡ driving_all (zero_holds l.net) (inputs l.net))
