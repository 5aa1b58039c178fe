-- How often a variable is declared.
use Rattle.std.proofs.Common.{◌≡◌, ℕ, zero, suc, ◌+◌, ◌<◌, Bool, true, false, cond, List, [], ◌∷◌, ◌++◌, refl}
use Rattle.std.proofs.Common.{ap, sym, ◌∙◌, arith}
use Rattle.std.specs.Prelude.{◌==◌}
use Rattle.std.proofs.lemmas.Bool.Decides.{nat_tests}
use Rattle.net_wave.specs.declared.var.Item.{Item}
use Rattle.net_wave.specs.declared.var.Item.TheVariants.{Open, Declare, Close}
use Rattle.net_wave.specs.declared.var.Var.{Var}
use Rattle.net_wave.specs.Vars.{up_to, vars_of}
use Rattle.net_wave.specs.Whole.{times}

module _ (v : Var) where
  abbrev pub seen : List Item → ℕ
  seen is = times v (vars_of is)

  pub seen_both : (is js : List Item) → seen (is ++ js) ≡ seen is + seen js
  seen_both [] js = omega arith
  seen_both (Open s ∷ is) js = seen_both is js
  seen_both (Declare x ∷ is) js = omega (arith, seen_both is js)
  seen_both (Close ∷ is) js = seen_both is js

  pub none_to : (f : ℕ → List Item) (n : ℕ) → ((k : ℕ) → k < n → seen (f k) ≡ 0) → seen (up_to f n) ≡ 0
  none_to f zero h = refl
  none_to f (suc n) h =
      omega (
        arith,
        seen_both (up_to f n) (f n),
        none_to f n (λ k l. h k (omega (arith, l))),
        h n (omega arith),
      )

  pub one_to : (f : ℕ → List Item) (n j : ℕ) → j < n → seen (f j) ≡ 1
      → ((k : ℕ) → k < n → (k ≡ j → ⊥) → seen (f k) ≡ 0) → seen (up_to f n) ≡ 1
  one_to f zero j l here others = absurd (omega (arith, l))
  one_to f (suc n) j l here others =
      cases (λ m. one_to f n j m here (λ k g. others k (omega (arith, g)))) (n == j) refl
    where
      cases : (j < n → seen (up_to f n) ≡ 1) → (b : Bool) → (n == j) ≡ b → seen (up_to f (suc n)) ≡ 1
      cases high true e =
          let same : n ≡ j = grind (arith, nat_tests) in
          omega (
            arith,
            seen_both (up_to f n) (f n),
            none_to f n (λ k m. others k (omega (arith, m))
                (λ d. omega (arith, m, d, same))),
            ap (λ (k : ℕ). seen (f k)) same,
            here,
          )
      cases high false e =
          let other : n ≡ j → ⊥ = λ d. grind (arith, nat_tests) in
          let below : j < n = omega (arith, l, other) in
          omega (arith, seen_both (up_to f n) (f n), high below, others n (omega arith) other)

  -- what is in a node, of things that each have a node
  module _ (at : ℕ → ℕ) (body : ℕ → List Item) (n : ℕ) where
    abbrev pub section : ℕ → List Item
    section k = up_to (λ i. cond (at i == k) (body i) []) n

    there : (k i : ℕ) → at i ≡ k → seen (cond (at i == k) (body i) []) ≡ seen (body i)
    there k i e = let yes : (at i == k) ≡ true = grind (arith, nat_tests) in
        ap (λ (b : Bool). seen (cond b (body i) [])) yes

    elsewhere : (k i : ℕ) → (at i ≡ k → ⊥) → seen (cond (at i == k) (body i) []) ≡ 0
    elsewhere k i e = cases (at i == k) refl
      where
        cases : (b : Bool) → (at i == k) ≡ b → seen (cond b (body i) []) ≡ 0
        cases true d = absurd (e (grind (arith, nat_tests)))
        cases false d = refl

    nothing : (k i : ℕ) → seen (body i) ≡ 0 → seen (cond (at i == k) (body i) []) ≡ 0
    nothing k i e = cases (at i == k)
      where
        cases : (b : Bool) → seen (cond b (body i) []) ≡ 0
        cases true = e
        cases false = refl

    pub section_none : (k : ℕ) → ((i : ℕ) → i < n → seen (body i) ≡ 0) → seen (section k) ≡ 0
    section_none k h = none_to (λ i. cond (at i == k) (body i) []) n (λ i l. nothing k i (h i l))

    pub section_one : (k j : ℕ) → j < n → at j ≡ k → seen (body j) ≡ 1
        → ((i : ℕ) → (i ≡ j → ⊥) → seen (body i) ≡ 0) → seen (section k) ≡ 1
    section_one k j l e here others =
        one_to (λ i. cond (at i == k) (body i) []) n j l
        (there k j e ∙ here) (λ i m d. nothing k i (others i d))

    pub section_other : (k j : ℕ) → (at j ≡ k → ⊥)
        → ((i : ℕ) → (i ≡ j → ⊥) → seen (body i) ≡ 0) → seen (section k) ≡ 0
    section_other k j e others = none_to (λ i. cond (at i == k) (body i) []) n (λ i m. cases i (i == j) refl)
      where
        cases : (i : ℕ) (b : Bool) → (i == j) ≡ b → seen (cond (at i == k) (body i) []) ≡ 0
        cases i true d =
            let same : i ≡ j = grind (arith, nat_tests) in elsewhere k i (λ f. e (ap at (sym same) ∙ f))
        cases i false d = nothing k i (others i (λ f. grind (arith, nat_tests)))
