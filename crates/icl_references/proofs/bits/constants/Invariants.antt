use Rattle.std.proofs.Common.{◌≡◌, false, map, take}
use Rattle.std.specs.Prelude.{unwrap_or}
use Rattle.ij_bits.specs.BitLists.{flip_if}
use Rattle.ij_text.specs.Numbers.{tern_bits}
use Rattle.icl_references.specs.declared.hier.Ref.TheVariants.{Fixed}
use Rattle.icl_references.proofs.bits.constants.Given as goal

abbrev pub invariant-loop-k : goal.invariant-loop-k
invariant-loop-k l =
    l.refs.items ≡ map (λ b. Fixed (flip_if l.inverted (unwrap_or b false))) (take l.k (tern_bits l.bits))
