use Rattle.std.proofs.Common.{◌≡◌, ◌-◌, length, drop}
use Rattle.icl_declarations.proofs.Joins.{joins}
use Rattle.icl_references.specs.Roles.{seen_refs}
use Rattle.icl_references.proofs.bits.side_by_side.Given as goal

abbrev pub invariant-loop-i : goal.invariant-loop-i
invariant-loop-i l = l.refs.items ≡ joins seen_refs (drop (length l.parts - l.i) l.parts)
