use Rattle.std.proofs.Common.{◌≡◌, map, take}
use Rattle.icl_elab.specs.Placing.{port_of, seen_ports}
use Rattle.icl_elab.proofs.hierarchy.add_cell_ports.Given as goal

abbrev pub invariant-loop-p : goal.invariant-loop-p
invariant-loop-p l = seen_ports l.ports.items ≡ map (port_of l.bindings) (take l.p-index l.parts)
