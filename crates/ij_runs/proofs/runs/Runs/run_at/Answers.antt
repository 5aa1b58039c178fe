use Rattle.std.proofs.Common.{true, nat_lt, List, Some, ◌≡◌, ◌<◌, ℕ, length, sym, ap, subst, ◌∙◌, arith}
use Rattle.std.specs.Prelude.{slice_get, slice_index_or}
use Rattle.std.proofs.lemmas.Bool.Decides.{nat_tests}
use Rattle.ij_runs.specs.Runs.{IsRunOf}
use Rattle.ij_runs.proofs.Expanded.{at, counted_all, last_of, early_of}
use Rattle.ij_runs.proofs.runs.Runs.run_at.Goals as goal

found : {A : Type 0} (xs ys : List A) (j : ℕ) (x : A) → ys ≡ xs → true ≡ nat_lt j (length ys)
    → x ≡ slice_index_or ys j x → slice_get xs j ≡ Some x
found xs ys j x e lt is = ap (λ l. slice_get l j) (sym e) ∙ at ys j x below is
  where
    below : j < length ys
    below = grind (lt, nat_tests, arith)

pub returns-then-last-i-clause-to : goal.returns-then-last-i-clause-to
returns-then-last-i-clause-to g c =
    let s = c.self.inside in
    let n = ap (λ m. length m.items) (sym c.self.view_is) ∙ counted_all g.T.Follow.after g.T.Follow.room
    s.before.items s.last c.in-Some.last c.in-Some.is c.self.invariant in
    let lt = c.requires in
    omega (arith, lt, n)

pub returns-then-last-i-clause-is : goal.returns-then-last-i-clause-is
returns-then-last-i-clause-is g c =
    let s = c.self.inside in
    subst (λ m. IsRunOf g.T.Follow.room g.T.Follow.after m.items c.in-Some.last) c.self.view_is
    (last_of g.T.Follow.after g.T.Follow.room s.before.items s.last c.in-Some.last c.in-Some.is
    c.self.invariant)

pub returns-then-i-run-clause-is : goal.returns-then-i-run-clause-is
returns-then-i-run-clause-is g c =
    let s = c.self.inside in
    subst (λ m. IsRunOf g.T.Follow.room g.T.Follow.after m.items c.in-Some-get.«run'».now) c.self.view_is
    (early_of g.T.Follow.after g.T.Follow.room s.before.items s.last c.guess.result c.in-Some-get.«run'».now
    (found s.before.items c.deref.result.now c.guess.result c.in-Some-get.«run'».now c.deref.ensures.value
    c.in-Some-get.ensures.lookup.0 c.in-Some-get.ensures.lookup.1) c.self.invariant)
