-- Lists that are in lists, one element after the other.
use Rattle.std.proofs.Common.{◌≡◌, ◌≤◌, inl, inr, ⊎_elim, Bool, true, false, cond, List, [], ◌∷◌, ◌++◌}
use Rattle.std.proofs.Common.{length, refl, sym, ap, ◌∙◌, subst, arith}
use Rattle.std.specs.Prelude.{filter}
use Rattle.merge_order.specs.Order.{StandIn}

module _ {X : Type 0} where
  pub stand_after : (xs front ys : List X) → StandIn xs ys → StandIn xs (front ++ ys)
  stand_after xs [] ys h = h
  stand_after [] (f ∷ front) ys h = tt
  stand_after (x ∷ xs) (f ∷ front) ys h = inr (stand_after (x ∷ xs) front ys h)

  pub stand_both : (xs ys us vs : List X) → StandIn xs ys → StandIn us vs → StandIn (xs ++ us) (ys ++ vs)
  stand_both [] ys us vs h k = stand_after us ys vs k
  stand_both (x ∷ xs) [] us vs h k = absurd h
  stand_both (x ∷ xs) (y ∷ ys) us vs h k =
      ⊎_elim (λ p. inl (p.0, stand_both xs ys us vs p.1 k)) (λ q. inr (stand_both (x ∷ xs) ys us vs q k)) h

  pub stand_self : (xs : List X) → StandIn xs xs
  stand_self [] = tt
  stand_self (x ∷ xs) = inl (refl, stand_self xs)

  append_none : (xs : List X) → xs ++ [] ≡ xs
  append_none [] = refl
  append_none (x ∷ xs) = ap (λ l. x ∷ l) (append_none xs)

  pub stand_front : (xs ys more : List X) → StandIn xs ys → StandIn xs (ys ++ more)
  stand_front xs ys more h =
      subst (λ l. StandIn l (ys ++ more)) (append_none xs) (stand_both xs ys [] more h tt)

  pub stand_few : (xs ys : List X) → StandIn xs ys → length xs ≤ length ys
  stand_few [] ys h = omega arith
  stand_few (x ∷ xs) [] h = absurd h
  stand_few (x ∷ xs) (y ∷ ys) h =
      ⊎_elim (λ p. let few = stand_few xs ys p.1 in
      omega (arith, few)) (λ q. let few = stand_few (x ∷ xs) ys q in omega (arith, few)) h

  -- as many elements are the same
  pub stand_all : (xs ys : List X) → StandIn xs ys → length ys ≤ length xs → ys ≡ xs
  stand_all [] [] h n = refl
  stand_all [] (y ∷ ys) h n = absurd (omega (arith, n))
  stand_all (x ∷ xs) [] h n = absurd h
  stand_all (x ∷ xs) (y ∷ ys) h n =
      ⊎_elim (λ p. ap (λ z. z ∷ ys) (sym p.0) ∙ ap (λ l. x ∷ l) (stand_all xs ys p.1 (omega (arith, n))))
      (λ q. let few = stand_few (x ∷ xs) ys q in absurd (omega (arith, few, n))) h

  module _ (test : X → Bool) where
    one_more : (x y : X) (fx fy : List X) → x ≡ y → StandIn fx fy
        → StandIn (cond (test x) (x ∷ fx) fx) (cond (test y) (y ∷ fy) fy)
    one_more x y fx fy e h =
        subst (λ z. StandIn (cond (test x) (x ∷ fx) fx) (cond (test z) (z ∷ fy) fy)) e (by_test (test x))
      where
        by_test : (b : Bool) → StandIn (cond b (x ∷ fx) fx) (cond b (x ∷ fy) fy)
        by_test true = inl (refl, h)
        by_test false = h

    skip : (y : X) (fx fy : List X) → StandIn fx fy → StandIn fx (cond (test y) (y ∷ fy) fy)
    skip y fx fy h = by_test (test y)
      where
        by_test : (b : Bool) → StandIn fx (cond b (y ∷ fy) fy)
        by_test true = stand_after fx (y ∷ []) fy h
        by_test false = h

    pub stand_filtered : (xs ys : List X) → StandIn xs ys → StandIn (filter test xs) (filter test ys)
    stand_filtered [] ys h = tt
    stand_filtered (x ∷ xs) [] h = absurd h
    stand_filtered (x ∷ xs) (y ∷ ys) h =
        ⊎_elim (λ p. one_more x y (filter test xs) (filter test ys) p.0 (stand_filtered xs ys p.1))
        (λ q. skip y (filter test (x ∷ xs)) (filter test ys) (stand_filtered (x ∷ xs) ys q)) h
