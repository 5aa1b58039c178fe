use Rattle.std.proofs.Common.{◌≡◌, ◌++◌, List, OnOk, Result, Ok, Err, take, sym, ap, ◌∙◌}
use Rattle.std.proofs.lemmas.List.{append_assoc}
use Rattle.ij_runs.specs.Runs.{expanded, run_items, values_of}
use Rattle.ij_runs.proofs.Expanded.{expanded_more, one_more, all_of}
use Rattle.ij_runs.proofs.runs.Runs.append.Goals as goal

by_result : {A E : Type 0} (xs ys zs : List A) (r : Result (Unit {0}) E) → OnOk r (xs ≡ ys) → ys ≡ zs → OnOk
    r (xs ≡ zs)
by_result xs ys zs (Ok u) h e = h ∙ e
by_result xs ys zs (Err u) h e = tt

pub loop-run-preserved : goal.loop-run-preserved
loop-run-preserved g c =
    let f = g.T.Follow in
    let l = c.loop-run in
    let rs = c.more.inside.before.items in
    c.in_ok-push_run.ensures.ok
    ∙ ap (λ xs. xs ++ run_items f.after c.run-item.result) l.invariant
    ∙ append_assoc c.args.self.now.items (expanded f.after (take l.run-index rs)) (run_items f.after
    c.run-item.result)
    ∙ ap (λ xs. c.args.self.now.items ++ xs) (sym (expanded_more f.after (take l.run-index rs)
    c.run-item.result))
    ∙ ap (λ qs. c.args.self.now.items ++ expanded f.after qs)
    (one_more rs c.deref-run-items.result.now l.run-index c.run-item.result c.deref-run-items.ensures.value
    c.loop-run-test.true c.run-item.is)

pub returns-in-Some : goal.returns-in-Some
returns-in-Some g c =
    let f = g.T.Follow in
    let rs = c.more.inside.before.items in
    let ts = c.deref-run-items.result.now in
    let all : take c.loop-run.run-index rs ≡ rs = all_of rs ts c.loop-run.run-index
    c.deref-run-items.ensures.value c.loop-run-test.false in
    by_result _ _ _ c.push_run-in-Some.result c.push_run-in-Some.ensures.ok
    (ap (λ xs. xs ++ run_items f.after c.in-Some.last) (c.loop-run.invariant
    ∙ ap (λ qs. c.args.self.now.items ++ expanded f.after qs) all)
    ∙ append_assoc c.args.self.now.items (expanded f.after rs) (run_items f.after c.in-Some.last)
    ∙ ap (λ o. c.args.self.now.items ++ values_of f.after rs o) (sym c.in-Some.is)
    ∙ ap (λ m. c.args.self.now.items ++ m.items) c.more.view_is)
