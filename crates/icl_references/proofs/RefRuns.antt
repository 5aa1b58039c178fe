-- Bits of a part from one on.
use Rattle.std.proofs.Common.{◌≡◌, ◌+◌, ℕ, zero, suc, Bool, ◌∷◌, map, refl, sym, ap, ◌∙◌, arith}
use Rattle.std.specs.List.{range_with_len}
use Rattle.ij_runs.specs.Runs.{following}
use Rattle.icl_references.specs.declared.hier.Ref.TheVariants.{Bit}
use Rattle.icl_references.specs.RefRuns.{ref_after}

module _ (cell part low : ℕ) (inverted : Bool) where
  from_one : (a b n : ℕ) → b ≡ low + a → map (λ k. Bit cell part (low + k) inverted) (range_with_len a n)
      ≡ map (λ pos. Bit cell part pos inverted) (range_with_len b n)
  from_one a b zero e = refl
  from_one a b (suc n) e =
      let more : b + 1 ≡ low + (a + 1) = omega (arith, e) in
      ap (λ pos. Bit cell part pos inverted ∷ map (λ k. Bit cell part (low + k) inverted) (range_with_len (a
      + 1) n))
      (sym e) ∙ ap (λ l. Bit cell part b inverted ∷ l) (from_one (a + 1) (b + 1) n more)

  pub bits_from : (count : ℕ) → following ref_after (Bit cell part low inverted) count
      ≡ map (λ pos. Bit cell part pos inverted) (range_with_len low count)
  bits_from count = from_one 0 low count (omega arith)
