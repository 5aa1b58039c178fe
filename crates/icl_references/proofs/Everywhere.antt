-- What holds at each place of a list, and what is left of it in a loop.
use Rattle.std.proofs.Common.{◌≡◌, ◌+◌, ◌<◌, ℕ, zero, suc, List, [], ◌∷◌, ◌++◌, length, map, get_or, drop}
use Rattle.std.proofs.Common.{sym, ap, subst, arith}

module _ {A : Type 0} (P : A → Type 0) where
  abbrev pub Everywhere : List A → Type 0
  Everywhere xs = (i : ℕ) (x : A) → i < length xs → x ≡ get_or xs i x → P x

  pub none : Everywhere []
  none i x lt e = absurd (omega (arith, lt))

  pub one_more : (xs : List A) (y : A) → Everywhere xs → P y → Everywhere (xs ++ y ∷ [])
  one_more [] y h p zero x lt e = subst P (sym e) p
  one_more [] y h p (suc i) x lt e = absurd (omega (arith, lt))
  one_more (z ∷ xs) y h p zero x lt e = h zero x (omega arith) e
  one_more (z ∷ xs) y h p (suc i) x lt e =
      one_more xs y (λ j w l g. h (suc j) w (omega (arith, l)) g) p i x (omega (arith, lt)) e

-- the items that are left, seen by a view
pub left_at : {A B : Type 0} (see : A → B) (xs : List A) (i : ℕ) (x : A) → i < length xs → x ≡ get_or xs i x
    → map see (drop i xs) ≡ see x ∷ map see (drop (i + 1) xs)
left_at see [] i x lt e = absurd (omega (arith, lt))
left_at see (y ∷ xs) zero x lt e = ap (λ z. see z ∷ map see xs) (sym e)
left_at see (y ∷ xs) (suc i) x lt e =
    let n : suc i + 1 ≡ suc (i + 1) = omega arith in rw n (left_at see xs i x (omega (arith, lt)) e)
