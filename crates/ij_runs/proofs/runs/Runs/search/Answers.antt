use Rattle.std.proofs.Common.{◌≡◌, ◌<◌, ◌≤◌, ℕ, length, get_or, take, [], Some, sym, ap, subst, ◌∙◌, arith}
use Rattle.std.specs.Prelude.{All, Option, List, None}
use Rattle.std.proofs.lemmas.List.Elements.{All-more}
use Rattle.std.proofs.lemmas.Option.{same_Some}
use Rattle.ij_runs.specs.declared.runs.Run.{Run}
use Rattle.ij_runs.specs.Runs.{IsRun, IsRunOf, AreAll}
use Rattle.ij_runs.proofs.Expanded.{counted_all, last_of, early_of, at, reached, passed, IsPast, all_of}
use Rattle.ij_runs.proofs.runs.Runs.search.Goals as goal

module _ {T : Type 0} (room : T → ℕ) (i : ℕ) (rs ts : List (Run T)) (same : ts ≡ rs) (j : ℕ)
    (h : All (IsPast room i) (take j rs)) where
  early : (r : Run T) → j < length ts → r ≡ get_or ts j r → (j < length rs) × (r ≡ get_or rs j r)
  early r lt is = let n = ap length same in (omega (arith, lt, n), is ∙ ap (λ l. get_or l j r) same)

  found : (o : Option (Run T)) (r : Run T) → AreAll room rs o → j < length ts → r ≡ get_or ts j r
      → (r.start ≤ i) × IsRun room r
  found None r are lt is = absurd (none rs j r are (early r lt is).0)
    where
      none : (qs : List (Run T)) (k : ℕ) (q : Run T) → qs ≡ [] → k < length qs → ⊥
      none qs k q e l = let n = ap length e in omega (arith, n, l)
  found (Some last) r are lt is = let at_j = early r lt is in
      reached room i 0 last.start rs j r are.0 (omega arith) h at_j.0 at_j.1

  past : (o : Option (Run T)) (r : Run T) → o ≡ Some r → AreAll room rs o → length ts ≤ j
      → (r.start ≤ i) × IsRun room r
  past None r e are le = absurd cc
  past (Some last) r e are le =
      let same_run = same_Some last r e in
      subst (λ q. (q.start ≤ i) × IsRun room q) same_run (
        passed room i 0 last.start rs are.0 (omega arith) (subst (All (IsPast room i)) (all_of rs ts j same
            le) h),
        are.1,
      )

pub returns-then-i-run-clause-from : goal.returns-then-i-run-clause-from
returns-then-i-run-clause-from g c =
    let s = c.self.inside in
    (found g.T.Follow.room c.args.i s.before.items c.deref-run-items.result.now
    c.deref-run-items.ensures.value
    c.loop-run.run-index c.loop-run.invariant s.last c.run-item.result c.self.invariant
    c.loop-run-test.true c.run-item.is).0

pub returns-then-i-run-clause-is : goal.returns-then-i-run-clause-is
returns-then-i-run-clause-is g c =
    let s = c.self.inside in
    let e = early g.T.Follow.room c.args.i s.before.items c.deref-run-items.result.now
    c.deref-run-items.ensures.value c.loop-run.run-index c.loop-run.invariant c.run-item.result
    c.loop-run-test.true c.run-item.is in
    subst (λ m. IsRunOf g.T.Follow.room g.T.Follow.after m.items c.run-item.result) c.self.view_is
    (early_of g.T.Follow.after g.T.Follow.room s.before.items s.last c.loop-run.run-index c.run-item.result
    (at s.before.items c.loop-run.run-index c.run-item.result e.0 e.1) c.self.invariant)

pub loop-run-preserved : goal.loop-run-preserved
loop-run-preserved g c =
    let s = c.self.inside in
    let e = early g.T.Follow.room c.args.i s.before.items c.deref-run-items.result.now
    c.deref-run-items.ensures.value c.loop-run.run-index c.loop-run.invariant c.run-item.result
    c.loop-run-test.true c.run-item.is in
    let out = c.if-i-run.false in
    All-more (IsPast g.T.Follow.room c.args.i) s.before.items c.loop-run.run-index c.run-item.result e.0
    c.loop-run.invariant (subst (IsPast g.T.Follow.room c.args.i) e.1 (omega (arith, out)))

pub returns-clause-from : goal.returns-clause-from
returns-clause-from g c =
    let s = c.self.inside in
    (past g.T.Follow.room c.args.i s.before.items c.deref-run-items.result.now c.deref-run-items.ensures.value
    c.loop-run.run-index c.loop-run.invariant s.last c.in-Some.last c.in-Some.is c.self.invariant
    c.loop-run-test.false).0

pub returns-clause-to : goal.returns-clause-to
returns-clause-to g c =
    let s = c.self.inside in
    let n = ap (λ m. length m.items) (sym c.self.view_is) ∙ counted_all g.T.Follow.after g.T.Follow.room
    s.before.items s.last c.in-Some.last c.in-Some.is c.self.invariant in
    let lt = c.requires in
    omega (arith, lt, n)

pub returns-clause-is : goal.returns-clause-is
returns-clause-is g c =
    let s = c.self.inside in
    subst (λ m. IsRunOf g.T.Follow.room g.T.Follow.after m.items c.in-Some.last) c.self.view_is
    (last_of g.T.Follow.after g.T.Follow.room s.before.items s.last c.in-Some.last c.in-Some.is
    c.self.invariant)
