-- Bits that follow one another: what the lists in runs of ij_runs ask of them.
use Rattle.std.specs.Prelude.{◌≡◌, ◌+◌, ◌-◌, ◌^◌, ℕ, refl}
use Rattle.std.proofs.Common.{ap, arith}
use Rattle.icl_references.specs.declared.hier.Ref.{Ref}
use Rattle.icl_references.specs.declared.hier.Ref.TheVariants.{Fixed, Bit}

-- the bit this many positions after one; the same constant
abbrev pub ref_after : ℕ → Ref → Ref
ref_after n (Fixed b) = Fixed b
ref_after n (Bit cell part pos inverted) = Bit cell part (pos + n) inverted

-- how many positions can be counted after it
abbrev pub ref_room : Ref → ℕ
ref_room (Fixed b) = 2 ^ 32 - 1
ref_room (Bit cell part pos inverted) = 2 ^ 32 - 1 - pos

pub none_after : (r : Ref) → ref_after 0 r ≡ r
none_after (Fixed b) = refl
none_after (Bit cell part pos inverted) =
    let e : pos + 0 ≡ pos = omega arith in ap (λ p. Bit cell part p inverted) e

pub both_after : (a b : ℕ) (r : Ref) → ref_after a (ref_after b r) ≡ ref_after (b + a) r
both_after a b (Fixed c) = refl
both_after a b (Bit cell part pos inverted) =
    let e : pos + b + a ≡ pos + (b + a) = omega arith in ap (λ p. Bit cell part p inverted) e
