use Rattle.std.proofs.Common.{◌≡◌, ◌∙◌, arith, ap, subst}
use Rattle.std.specs.Prelude.{MatchOption}
use Rattle.ij_io.proofs.Adding.{at_refusal}
use Rattle.net_graph.specs.SeenSteps.{seen_step}
use Rattle.merge_order.specs.BitSteps.{BitStepsOf, nothing_left, given_first_bit}
use Rattle.direct_report.proofs.Wholes.{IsOf, go_on, refused, part_so_far, steps_are, few_later}
use Rattle.direct_report.proofs.whole.put_steps.Goals as goal

pub returns-in_err-step-clause-part : goal.returns-in_err-step-clause-part
returns-in_err-step-clause-part g c =
    at_refusal _ (part_so_far c.args.play.now c.args.steps.now.steps (g.K.Sink.taken c.args.k.now)
    c.loop-step.play c.loop-step.steps.steps (g.K.Sink.taken c.loop-step.k) c.loop-step.invariant.go)

pub returns-in_err-step-2-clause-part : goal.returns-in_err-step-2-clause-part
returns-in_err-step-2-clause-part g c =
    let given = subst (λ o. MatchOption o (c.loop-step.steps ≡ nothing_left) (λ s. c.loop-step.steps
    ≡ given_first_bit (seen_step s) c.next_step.new.steps)) c.in-Some.is c.in_ok-step.ensures.given in
    let next = ap (λ (b : BitStepsOf). b.steps) given in
    at_refusal _ (refused c.args.play.now c.args.steps.now.steps (g.K.Sink.taken c.args.k.now)
    c.loop-step.play (seen_step c.in-Some.step) c.next_step.new.steps.steps c.loop-step.steps.steps
    (g.K.Sink.taken c.loop-step.k) (g.K.Sink.taken c.step.new.k) next c.loop-step.invariant.of
    c.loop-step.invariant.go c.in_err-step-2.ensures.part)

pub loop-step-preserved-in_ok-step-2 : goal.loop-step-preserved-in_ok-step-2
loop-step-preserved-in_ok-step-2 g c =
    let given = subst (λ o. MatchOption o (c.loop-step.steps ≡ nothing_left) (λ s. c.loop-step.steps
    ≡ given_first_bit (seen_step s) c.next_step.new.steps)) c.in-Some.is c.in_ok-step.ensures.given in
    let next = ap (λ (b : BitStepsOf). b.steps) given in
    let of : IsOf c.args.play.now c.step.new.self = record {
      net = c.step.ensures.net
          ∙ c.loop-step.invariant.of.net;
      models = c.step.ensures.models ∙ c.loop-step.invariant.of.models;
    } in
    record {
      go = go_on c.args.play.now c.args.steps.now.steps
          (g.K.Sink.taken c.args.k.now) c.loop-step.play c.step.new.self (seen_step c.in-Some.step)
          c.next_step.new.steps.steps c.loop-step.steps.steps (g.K.Sink.taken c.loop-step.k)
          (g.K.Sink.taken c.step.new.k) next c.loop-step.invariant.of c.loop-step.invariant.go
          (record { lines = c.in_ok-step-2.ensures.whole; state = c.in_ok-step-2.ensures.state });
      of = of;
      steps = steps_are c.loop-step.steps.steps c.next_step.new.steps.steps (seen_step c.in-Some.step) next
          c.loop-step.play.net c.step.new.self.net c.step.ensures.net c.loop-step.invariant.steps;
      few = few_later c.loop-step.steps.steps c.next_step.new.steps.steps (seen_step c.in-Some.step) next
          c.loop-step.play.reads c.step.new.self.reads c.loop-step.invariant.few c.in_ok-step-2.ensures.few;
      later = omega (arith, c.step.ensures.cause.later, c.loop-step.invariant.later);
    }

pub loop-step-preserved : goal.loop-step-preserved
loop-step-preserved g c =
    let given = subst (λ o. MatchOption o (c.loop-step.steps ≡ nothing_left) (λ s. c.loop-step.steps
    ≡ given_first_bit (seen_step s) c.next_step.new.steps)) c.in-Some.is c.in_ok-step.ensures.given in
    let next = ap (λ (b : BitStepsOf). b.steps) given in
    let of : IsOf c.args.play.now c.step.new.self = record {
      net = c.step.ensures.net
          ∙ c.loop-step.invariant.of.net;
      models = c.step.ensures.models ∙ c.loop-step.invariant.of.models;
    } in
    record {
      go = go_on c.args.play.now c.args.steps.now.steps
          (g.K.Sink.taken c.args.k.now) c.loop-step.play c.step.new.self (seen_step c.in-Some.step)
          c.next_step.new.steps.steps c.loop-step.steps.steps (g.K.Sink.taken c.loop-step.k)
          (g.K.Sink.taken c.step.new.k) next c.loop-step.invariant.of c.loop-step.invariant.go
          (record { lines = c.in_ok-step-2.ensures.whole; state = c.in_ok-step-2.ensures.state });
      of = of;
      steps = steps_are c.loop-step.steps.steps c.next_step.new.steps.steps (seen_step c.in-Some.step) next
          c.loop-step.play.net c.step.new.self.net c.step.ensures.net c.loop-step.invariant.steps;
      few = few_later c.loop-step.steps.steps c.next_step.new.steps.steps (seen_step c.in-Some.step) next
          c.loop-step.play.reads c.step.new.self.reads c.loop-step.invariant.few c.in_ok-step-2.ensures.few;
      later = omega (arith, c.step.ensures.cause.later, c.loop-step.invariant.later);
    }
