use Rattle.std.proofs.Common.{◌≡◌, drop}
use Rattle.std.specs.Prelude.{flat_map}
use Rattle.net_graph.specs.Held.{AreHolds}
use Rattle.nest_check.specs.Uses.{driving_all, inputs_of}
use Rattle.nest_check.proofs.uses.flag_inst.Given as goal

abbrev pub invariant-loop-port : goal.invariant-loop-port
invariant-loop-port l =
    AreHolds l.net l.flags
    × (driving_all l.flags (flat_map (λ port. port.bits.items) (drop l.port-index l.port-items))
    ≡ driving_all l.fn.flags (inputs_of l.inst))
