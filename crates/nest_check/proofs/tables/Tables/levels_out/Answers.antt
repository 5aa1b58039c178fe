use Rattle.std.proofs.Common.{◌≡◌, ℕ, zero, suc, ◌+◌, ◌-◌, ◌<◌, ◌≤◌, List, [], ◌∷◌, ◌++◌, Some, None, sym, ap}
use Rattle.std.proofs.Common.{◌∙◌, refl, arith, append_assoc}
use Rattle.std.proofs.lemmas.List.{append-nil}
use Rattle.nest_check.specs.Tables.{around_at, levels_out, climbed_on}
use Rattle.nest_check.specs.declared.place.BegunMux.{BegunMux}
use Rattle.nest_check.specs.declared.tables.MetMux.{MetMux}
use Rattle.nest_check.proofs.tables.Tables.levels_out.Goals as goal
use Rattle.nest_check.proofs.tables.Tables.levels_out.Goals.{else-loop-step-test, then-loop-step-test+in-None}

one_more : (n i here : ℕ) (met : List MetMux) (a : MetMux) → i < n → around_at met here ≡ Some a
    → levels_out (n - i) met here ≡ a.level ∷ levels_out (n - (i + 1)) met a.outer
one_more n i here met a l e =
    let left : n - i ≡ suc (n - (i + 1)) = omega (arith, l) in
    ap (λ k. levels_out k met here) left ∙ ap (climbed_on (levels_out (n - (i + 1)) met)) e

none_more : (k here : ℕ) (met : List MetMux) → around_at met here ≡ None → levels_out k met here ≡ []
none_more zero here met e = refl
none_more (suc k) here met e = ap (climbed_on (levels_out k met)) e

done : (n i here : ℕ) (met : List MetMux) → n ≤ i → levels_out (n - i) met here ≡ []
done n i here met l = let left : n - i ≡ 0 = omega (arith, l) in ap (λ k. levels_out k met here) left

whole : (xs ys all : List BegunMux) → ys ≡ [] → xs ++ ys ≡ all → xs ≡ all
whole xs ys all e h = sym (append-nil xs) ∙ ap (λ l. xs ++ l) (sym e) ∙ h

pub loop-step-preserved : goal.loop-step-preserved
loop-step-preserved c =
    let rest =
    levels_out (c.args.from - (c.loop-step._step + 1)) c.args.self.now.met.items c.in-Some.around.outer in
    ap (λ l. l ++ rest) c.in_ok-push-in-Some.ensures.items
    ∙ append_assoc c.loop-step.levels.items (c.in-Some.around.level ∷ []) rest
    ∙ ap (λ l. c.loop-step.levels.items ++ l) (sym (one_more c.args.from c.loop-step._step c.loop-step.here
    c.args.self.now.met.items c.in-Some.around c.loop-step-test.true (sym c.in-Some.ensures)))
    ∙ c.loop-step.invariant

pub returns : goal.returns
returns c =
    let met = c.args.self.now.met.items in
    let n = c.args.from in
    let i = c.loop-step._step in
    let here = c.loop-step.here in
    elim c.loop-step-test.branch [
      | else-loop-step-test w ↦ whole c.loop-step.levels.items (levels_out (n - i) met here)
          (levels_out n met n)
          (done n i here met w.loop-step-test.false) c.loop-step.invariant
      | then-loop-step-test+in-None w ↦ whole c.loop-step.levels.items (levels_out (n - i) met here)
          (levels_out n met n) (none_more (n - i) here met (sym w.in-None.ensures)) c.loop-step.invariant
    ]
