use Rattle.std.proofs.Common.{◌≡◌, sym, subst}
use Rattle.std.proofs.lemmas.Result.{err_from_is_err_and}
use Rattle.std.specs.Prelude.{Option, MatchOption}
use Rattle.pdl_expand.specs.Code.{Left}
use Rattle.pdl_expand.specs.SeenSteps.{given_first, nothing_left as no_step}
use Rattle.pdl_expand.specs.Values.{seen_step}
use Rattle.pdl_expand.specs.declared.step.Step.{Step}
use Rattle.merge_order.specs.Seen.{Refuses, of_feed}
use Rattle.merge_order.specs.SeenProgress.{bits_after, steps_of}
use Rattle.merge_order.proofs.progress.Progress.advance.Goals as goal

pub returns-in_err-feed-in-Some-clause-refused : goal.returns-in_err-feed-in-Some-clause-refused
returns-in_err-feed-in-Some-clause-refused c =
    let p = err_from_is_err_and c.from_residual-in_err-feed-in-Some.result
    c.from_residual-in_err-feed-in-Some.ensures.1 in
    let left = steps_of c.args.self.now in
    let more = c.take.new.steps in
    let taken : left ≡ given_first (seen_step c.in-Some.step) more =
    subst (λ (o : Option Step). MatchOption o (left ≡ no_step) (λ s. left ≡ given_first (seen_step s) more))
    c.in-Some.is c.in_ok-step.ensures.taken in
    let refused = c.in_err-feed-in-Some.ensures.refused more in
    rw (p.1, p.2) (subst (λ (l : Left). Refuses (bits_after c.args.self.now.feeder l)
    (of_feed c.in_err-feed-in-Some.field-0.0)) (sym taken) refused)
