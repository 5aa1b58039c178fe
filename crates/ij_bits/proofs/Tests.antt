-- What tests tell, beside what std's lemmas say of them.
use Rattle.std.proofs.Common.{◌≡◌, ◌⊎◌, inl, inr, ℕ, suc, ◌+◌, ◌-◌, ◌<◌, ◌≤◌, Bool, true, false, Some, None}
use Rattle.std.proofs.Common.{cond, refl, sym, ⊎_elim, arith}
use Rattle.std.specs.Prelude.{◌==◌, ◌&&◌, ◌||◌, is_some}
use Rattle.std.proofs.lemmas.Bool.{eqb-true, eq-eqb, cases_lt}
use Rattle.std.proofs.lemmas.Bool.Decides.{eqb_tells, nat_tests}

pub not_both : (b : Bool) → b ≡ true → b ≡ false → ⊥
not_both true h k = absurd cc
not_both false h k = absurd cc

pub same_truth : (a b : Bool) → (a ≡ true → b ≡ true) → (b ≡ true → a ≡ true) → a ≡ b
same_truth true b to from = sym (to refl)
same_truth false true to from = from refl
same_truth false false to from = refl

-- ---- of two tests and more

pub or_left_false : (a b : Bool) → (a || b) ≡ false → a ≡ false
or_left_false true b h = h
or_left_false false b h = refl

pub or_right_false : (a b : Bool) → (a || b) ≡ false → b ≡ false
or_right_false true b h = absurd cc
or_right_false false b h = h

pub and_second : (a b : Bool) → (a && b) ≡ true → b ≡ true
and_second true b h = h
and_second false b h = absurd cc

pub or_four : (a b c d : Bool) → ((a || b) || (c || d)) ≡ ((a || c) || (b || d))
or_four true b c d = refl
or_four false true true d = refl
or_four false true false d = refl
or_four false false c d = refl

-- ---- numbers

pub number_self : (n : ℕ) → (n == n) ≡ true
number_self n = ⊎_elim (λ e. e.0) (λ e. absurd (e.1 refl)) (eqb_tells n n)

pub next_not_zero : (n : ℕ) → (suc n == 0) ≡ false
next_not_zero n = grind (arith, nat_tests)

pub number_turned : (a b : ℕ) → (a == b) ≡ (b == a)
number_turned a b = by_tests (a == b) (b == a) refl refl
  where
    by_tests : (t u : Bool) → (a == b) ≡ t → (b == a) ≡ u → t ≡ u
    by_tests true true e f = refl
    by_tests true false e f = let on = eq-eqb b a (sym (eqb-true a b e)) in absurd cc
    by_tests false true e f = let on = eq-eqb a b (sym (eqb-true b a f)) in absurd cc
    by_tests false false e f = refl

pub up_to_or_past : (n r : ℕ) → (n ≤ r) ⊎ (r < n)
up_to_or_past n r = ⊎_elim inr inl (cases_lt r n)

pub one_less : (w i : ℕ) → i < w → w - i ≡ suc (w - (i + 1))
one_less w i h = omega arith

-- ---- what is there only where a test says so

pub some_cond : {A : Type 0} (b : Bool) (a : A) → is_some (cond b (Some a) None) ≡ true → b ≡ true
some_cond true a h = refl
some_cond false a h = absurd cc
