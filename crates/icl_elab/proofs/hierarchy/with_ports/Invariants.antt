use Rattle.std.proofs.Common.{◌≡◌, ◌++◌, map, vec_len}
use Rattle.std.specs.Prelude.{reverse}
use Rattle.icl_elab.specs.Placing.{parts_with, seen_ports}
use Rattle.icl_references.specs.Roles.{seen_part}
use Rattle.icl_elab.proofs.hierarchy.with_ports.Given as goal

abbrev pub invariant-loop-first : goal.invariant-loop-first
invariant-loop-first l = map seen_part l.parts.items ++ parts_with (reverse l.left.items)
    (seen_ports (reverse l.ports_left.items)) ≡ parts_with l.fn.placed.items (seen_ports l.fn.ports.items)

abbrev pub decreases-loop-first : goal.decreases-loop-first
decreases-loop-first l = vec_len l.left
