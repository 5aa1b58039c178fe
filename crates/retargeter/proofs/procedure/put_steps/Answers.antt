use Rattle.std.proofs.Common.{◌≡◌, arith, ap, subst}
use Rattle.std.specs.Prelude.{MatchOption}
use Rattle.ij_io.proofs.Adding.{at_refusal}
use Rattle.net_graph.specs.SeenSteps.{seen_step}
use Rattle.merge_order.specs.BitSteps.{BitStepsOf, nothing_left, given_first_bit}
use Rattle.retargeter.proofs.Scripts.{go_on, refused, part_so_far, few_later, plannable_later, few_steps}
use Rattle.retargeter.proofs.procedure.put_steps.Goals as goal

pub returns-in_err-step-clause-part : goal.returns-in_err-step-clause-part
returns-in_err-step-clause-part g c =
    at_refusal _ (part_so_far c.args.session.now c.args.steps.now.steps (g.K.Sink.taken c.args.k.now)
    c.loop-step.session c.loop-step.steps.steps (g.K.Sink.taken c.loop-step.k) c.loop-step.invariant.go)

pub returns-in_err-put_step-clause-part : goal.returns-in_err-put_step-clause-part
returns-in_err-put_step-clause-part g c =
    let given = subst (λ o. MatchOption o (c.loop-step.steps ≡ nothing_left) (λ s. c.loop-step.steps
    ≡ given_first_bit (seen_step s) c.next_step.new.steps)) c.in-Some.is c.in_ok-step.ensures.given in
    let next = ap (λ (b : BitStepsOf). b.steps) given in
    at_refusal _ (refused c.args.session.now c.args.steps.now.steps (g.K.Sink.taken c.args.k.now)
    c.loop-step.session (seen_step c.in-Some.step) c.next_step.new.steps.steps
    (g.K.Sink.taken c.loop-step.k) (g.K.Sink.taken c.put_step.new.k) c.loop-step.steps.steps next
    c.loop-step.invariant.go c.in_err-put_step.ensures.part)

pub loop-step-preserved-in_ok-put_step : goal.loop-step-preserved-in_ok-put_step
loop-step-preserved-in_ok-put_step g c =
    let given = subst (λ o. MatchOption o (c.loop-step.steps ≡ nothing_left) (λ s. c.loop-step.steps
    ≡ given_first_bit (seen_step s) c.next_step.new.steps)) c.in-Some.is c.in_ok-step.ensures.given in
    let next = ap (λ (b : BitStepsOf). b.steps) given in
    record {
      go = go_on c.args.session.now c.args.steps.now.steps (g.K.Sink.taken c.args.k.now) c.loop-step.session
          (seen_step c.in-Some.step) c.next_step.new.steps.steps (g.K.Sink.taken c.loop-step.k)
          (g.K.Sink.taken c.put_step.new.k) c.loop-step.steps.steps c.put_step.new.self next
          c.loop-step.invariant.go c.in_ok-put_step.ensures.whole c.in_ok-put_step.ensures.after;
      plannable = plannable_later c.loop-step.steps.steps c.next_step.new.steps.steps
          (seen_step c.in-Some.step) next c.loop-step.session c.put_step.new.self c.put_step.ensures.plan
          c.in_ok-put_step.ensures.after c.loop-step.invariant.plannable;
      rounds = few_later c.loop-step.steps.steps c.next_step.new.steps.steps
          (seen_step c.in-Some.step) next c.loop-step.invariant.rounds;
      few = few_steps c.loop-step.steps.steps c.next_step.new.steps.steps
          (seen_step c.in-Some.step) next c.loop-step.session c.put_step.new.self c.put_step.ensures.plan
          c.in_ok-put_step.ensures.after c.loop-step.invariant.few;
      later = omega (arith, c.put_step.ensures.cause.later, c.loop-step.invariant.later);
    }

pub loop-step-preserved : goal.loop-step-preserved
loop-step-preserved g c =
    let given = subst (λ o. MatchOption o (c.loop-step.steps ≡ nothing_left) (λ s. c.loop-step.steps
    ≡ given_first_bit (seen_step s) c.next_step.new.steps)) c.in-Some.is c.in_ok-step.ensures.given in
    let next = ap (λ (b : BitStepsOf). b.steps) given in
    record {
      go = go_on c.args.session.now c.args.steps.now.steps (g.K.Sink.taken c.args.k.now) c.loop-step.session
          (seen_step c.in-Some.step) c.next_step.new.steps.steps (g.K.Sink.taken c.loop-step.k)
          (g.K.Sink.taken c.put_step.new.k) c.loop-step.steps.steps c.put_step.new.self next
          c.loop-step.invariant.go c.in_ok-put_step.ensures.whole c.in_ok-put_step.ensures.after;
      plannable = plannable_later c.loop-step.steps.steps c.next_step.new.steps.steps
          (seen_step c.in-Some.step) next c.loop-step.session c.put_step.new.self c.put_step.ensures.plan
          c.in_ok-put_step.ensures.after c.loop-step.invariant.plannable;
      rounds = few_later c.loop-step.steps.steps c.next_step.new.steps.steps
          (seen_step c.in-Some.step) next c.loop-step.invariant.rounds;
      few = few_steps c.loop-step.steps.steps c.next_step.new.steps.steps
          (seen_step c.in-Some.step) next c.loop-step.session c.put_step.new.self c.put_step.ensures.plan
          c.in_ok-put_step.ensures.after c.loop-step.invariant.few;
      later = omega (arith, c.put_step.ensures.cause.later, c.loop-step.invariant.later);
    }
