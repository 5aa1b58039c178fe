-- The size before a `'`.
use Rattle.std.proofs.Common.{◌≡◌, ◌<◌, ℕ, List, [], ◌∷◌, length, get_or, take, drop, suc, ◌-◌, refl, ap}
use Rattle.std.proofs.Common.{arith}
use Rattle.ij_text.specs.declared.Place.{Place}
use Rattle.icl_declarations.specs.Values.{Params}
use Rattle.icl_declarations.specs.Expressions.{parameter_size, size_of}

take_all : (bs : List ℕ) → take (length bs) bs ≡ bs
take_all [] = refl
take_all (b ∷ bs) = ap (λ (l : List ℕ). b ∷ l) (take_all bs)

rest : (b : ℕ) (bs : List ℕ) → take (suc (length bs) - 1) bs ≡ bs
rest b bs = let one : suc (length bs) - 1 ≡ length bs = omega arith in rw one (take_all bs)

pub size_after : (ps : Params) (at : Place) (text : List ℕ) → 0 < length text → get_or text 0 0 ≡ 36
    → size_of ps at text ≡ parameter_size ps at (take (length text - 1) (drop 1 text))
unfolding size_of
size_after ps at [] lt e = absurd (omega (arith, lt))
size_after ps at (b ∷ bs) lt e = rw (e, rest b bs) refl
