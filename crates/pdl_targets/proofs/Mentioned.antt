-- Each register that a step names is mentioned, once.
use Rattle.std.proofs.Common.{◌≡◌, ◌≤◌, ◌+◌, ℕ, suc, Bool, true, false, cond, List, [], ◌∷◌, ◌++◌, refl, sym}
use Rattle.std.proofs.Common.{ap, ◌∙◌, subst, arith}
use Rattle.std.specs.Prelude.{◌==◌, ◌||◌}
use Rattle.std.proofs.lemmas.Bool.{eqb-true}
use Rattle.net_graph.specs.Path.{is_in}
use Rattle.pdl_targets.specs.Laws.{times, MentionsAreOnce, EachIsMentioned}
use Rattle.std.proofs.Math.Bool.{or_assoc}

pub none_in : (rs : List ℕ) (r : ℕ) → is_in rs r ≡ false → times rs r ≡ 0
none_in [] r e = refl
none_in (q ∷ qs) r e = by_test (q == r) (none_in qs r) e
  where
    by_test : (t : Bool) → (is_in qs r ≡ false → times qs r ≡ 0) → (t || is_in qs r) ≡ false
        → cond t (suc (times qs r)) (times qs r) ≡ 0
    by_test true again e = absurd cc
    by_test false again e = again e

with_last : (rs : List ℕ) (q r : ℕ) → times (rs ++ q ∷ []) r ≡ times rs r + cond (q == r) 1 0
with_last [] q r = none_first (cond (q == r) 1 0)
  where
    none_first : (n : ℕ) → n ≡ 0 + n
    none_first n = omega arith
with_last (p ∷ ps) q r = by_test (p == r) (with_last ps q r)
  where
    by_test : (t : Bool) → times (ps ++ q ∷ []) r ≡ times ps r + cond (q == r) 1 0
        → cond t (suc (times (ps ++ q ∷ []) r)) (times (ps ++ q ∷ []) r)
        ≡ cond t (suc (times ps r)) (times ps r) + cond (q == r) 1 0
    by_test true e = omega (arith, e)
    by_test false e = e

one_more : (registers : List ℕ) (q r : ℕ) → times registers r ≤ 1
    → times (cond (is_in registers q) registers (registers ++ q ∷ [])) r ≤ 1
one_more registers q r few = by_test (is_in registers q) refl
  where
    by_same : (t : Bool) → (q == r) ≡ t → is_in registers q ≡ false → times registers r + cond t 1 0 ≤ 1
    by_same true e off = let none : times registers r ≡ 0 =
        subst (λ n. times registers n ≡ 0) (eqb-true q r e) (none_in registers q off) in omega (arith, none)
    by_same false e off = omega (arith, few)

    by_test : (t : Bool) → is_in registers q ≡ t → times (cond t registers (registers ++ q ∷ [])) r ≤ 1
    by_test true e = few
    by_test false e = subst (λ n. n ≤ 1) (sym (with_last registers q r)) (by_same (q == r) refl e)

pub mentions_are_once : MentionsAreOnce
mentions_are_once registers [] r few = few
mentions_are_once registers (q ∷ qs) r few = mentions_are_once
    (cond (is_in registers q) registers (registers ++ q ∷ [])) qs r (one_more registers q r few)

pub is_in_last : (rs : List ℕ) (q r : ℕ) → is_in (rs ++ q ∷ []) r ≡ (is_in rs r || (q == r))
is_in_last [] q r = by_test (q == r)
  where
    by_test : (t : Bool) → (t || false) ≡ t
    by_test true = refl
    by_test false = refl
is_in_last (p ∷ ps) q r = ap (λ t. (p == r) || t) (is_in_last ps q r)
    ∙ sym (or_assoc (p == r) (is_in ps r) (q == r))

with_it : (registers : List ℕ) (q r : ℕ)
    → is_in (cond (is_in registers q) registers (registers ++ q ∷ [])) r ≡ (is_in registers r || (q == r))
with_it registers q r = by_test (is_in registers q) refl
  where
    or_false : (a : Bool) → a ≡ (a || false)
    or_false true = refl
    or_false false = refl

    by_same : (t : Bool) → (q == r) ≡ t → is_in registers q ≡ true
        → is_in registers r ≡ (is_in registers r || t)
    by_same true e on =
        let there : is_in registers r ≡ true = subst (λ n. is_in registers n ≡ true) (eqb-true q r e) on in
        there ∙ sym (ap (λ a. a || true) there)
    by_same false e on = or_false (is_in registers r)

    by_test : (t : Bool) → is_in registers q ≡ t
        → is_in (cond t registers (registers ++ q ∷ [])) r ≡ (is_in registers r || (q == r))
    by_test true e = by_same (q == r) refl e
    by_test false e = is_in_last registers q r

pub each_is_mentioned : EachIsMentioned
each_is_mentioned registers [] r = or_none (is_in registers r)
  where
    or_none : (a : Bool) → a ≡ (a || false)
    or_none true = refl
    or_none false = refl
each_is_mentioned registers (q ∷ qs) r =
    each_is_mentioned (cond (is_in registers q) registers (registers ++ q ∷ [])) qs r
    ∙ ap (λ t. t || is_in qs r) (with_it registers q r)
    ∙ or_assoc (is_in registers r) (q == r) (is_in qs r)
