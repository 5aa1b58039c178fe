use Rattle.std.proofs.Common.{rules, ◌+◌, ◌++◌, Some, refl, sym, ap, subst, ◌∙◌}
use Rattle.std.proofs.lemmas.List.{append_assoc}
use Rattle.ij_runs.specs.Runs.{following, expanded, run_items, values_of, AreRuns, AreAll}
use Rattle.ij_runs.proofs.Expanded.{joined, runs_more, expanded_more}
use Rattle.ij_runs.proofs.runs.Runs.push_run.Goals as goal

pub returns-then-reaches-clause-ok : goal.returns-then-reaches-clause-ok
returns-then-reaches-clause-ok g c =
    let i = c.self.inside in
    let f = g.T.Follow in
    let l = c.in-Some.last in
    ap (λ xs. expanded f.after i.before.items ++ xs)
    (joined f.after f.composes l.first c.args.first l.len c.args.count (c.if-is_after.ensures refl))
    ∙ sym (append_assoc (expanded f.after i.before.items) (run_items f.after l)
    (following f.after c.args.first c.args.count))
    ∙ ap (λ o. values_of f.after i.before.items o ++ following f.after c.args.first c.args.count)
    (sym c.in-Some.is)
    ∙ ap (λ m. m.items ++ following f.after c.args.first c.args.count) c.self.view_is

pub invariant_of-self-2 : goal.invariant_of-self-2
invariant_of-self-2 g c =
    let i = c.self.inside in
    let f = g.T.Follow in
    let l = c.in-Some.last in
    let was : AreAll f.room i.before.items (Some l) = subst (AreAll f.room i.before.items) c.in-Some.is
    c.self.invariant in
    let push = c.in_ok-push.ensures in (
      subst (λ rs. AreRuns f.room 0 rs (l.start + l.len)) (sym push.items)
          (runs_more f.room 0 l.start i.before.items l was.0 was.1 refl),
      search rules,
      search rules,
    )

pub returns-clause-ok : goal.returns-clause-ok
returns-clause-ok g c =
    let i = c.self.inside in
    let f = g.T.Follow in
    let l = c.in-Some.last in
    let push = c.in_ok-push.ensures in
    ap (λ rs. expanded f.after rs ++ following f.after c.args.first c.args.count)
    (push.items) ∙ ap (λ xs. xs ++ following f.after c.args.first c.args.count)
    (expanded_more f.after i.before.items l)
    ∙ ap (λ o. values_of f.after i.before.items o ++ following f.after c.args.first c.args.count)
    (sym c.in-Some.is)
    ∙ ap (λ m. m.items ++ following f.after c.args.first c.args.count) c.self.view_is
