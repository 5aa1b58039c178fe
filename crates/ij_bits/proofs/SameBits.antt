-- Two bits are the same exactly where they are one.
use Rattle.std.proofs.Common.{◌≡◌, Bool, true, false, not, refl, sym, List, [], ◌∷◌, ◌∙◌, ap, ◌&&◌}
use Rattle.std.specs.Bool.{beq}
use Rattle.ij_bits.specs.BitLists.{same_bit, bits_eq}

pub same_self : (a : Bool) → same_bit a a ≡ true
same_self true = refl
same_self false = refl

pub same_bits : (a b : Bool) → same_bit a b ≡ true → a ≡ b
same_bits true true e = refl
same_bits true false e = sym e
same_bits false true e = e
same_bits false false e = refl

pub differ : (a b : Bool) → not (beq a b) ≡ true → same_bit a b ≡ false
differ true true e = absurd (cc)
differ true false e = refl
differ false true e = refl
differ false false e = absurd (cc)

pub agree : (a b : Bool) → not (beq a b) ≡ false → same_bit a b ≡ true
agree true true e = refl
agree true false e = absurd (cc)
agree false true e = absurd (cc)
agree false false e = refl

pub bits_same_self : (a : List Bool) → bits_eq a a ≡ true
bits_same_self [] = refl
bits_same_self (x ∷ a) = ap (λ b. b && bits_eq a a) (same_self x) ∙ bits_same_self a
