use Rattle.std.proofs.Common.{◌≡◌, ◌∙◌, ap, sym, subst}
use Rattle.std.specs.Prelude.{All, MatchOption}
use Rattle.std.proofs.lemmas.List.Elements.{All-tail}
use Rattle.merge_order.specs.BitSteps.{BitStepsOf, nothing_left, given_first_bit}
use Rattle.net_graph.specs.SeenSteps.{seen_step}
use Rattle.net_graph.specs.Steps.{IsStep}
use Rattle.net_graph.specs.declared.net.Net.{Net}
use Rattle.pdl_meaning.specs.States.{SeenDirect}
use Rattle.ijtag_tests.proofs.direct_values.do_steps.Goals as goal

pub loop-step-preserved-in_ok-step-2 : goal.loop-step-preserved-in_ok-step-2
loop-step-preserved-in_ok-step-2 c =
    let given = subst (λ o. MatchOption o (c.loop-step.steps ≡ nothing_left) (λ s. c.loop-step.steps
    ≡ given_first_bit (seen_step s) c.next_step.new.steps)) c.in-Some.is c.in_ok-step.ensures.given in
    let net = c.loop-step.direct.net in
    let left = c.next_step.new.steps.steps in
    let all = subst (All (IsStep net)) (ap (λ (b : BitStepsOf). b.steps) given) c.loop-step.invariant.steps in
    record {
      steps = subst (λ (n : Net). All (IsStep n) left)
          (sym (ap (λ (d : SeenDirect). d.net) c.in_ok-step-2.ensures.ok))
          (All-tail (IsStep net) (seen_step c.in-Some.step) left all);
      insts = c.step.ensures.insts ∙ c.loop-step.invariant.insts;
    }

pub loop-step-preserved : goal.loop-step-preserved
loop-step-preserved c =
    let given = subst (λ o. MatchOption o (c.loop-step.steps ≡ nothing_left) (λ s. c.loop-step.steps
    ≡ given_first_bit (seen_step s) c.next_step.new.steps)) c.in-Some.is c.in_ok-step.ensures.given in
    let net = c.loop-step.direct.net in
    let left = c.next_step.new.steps.steps in
    let all = subst (All (IsStep net)) (ap (λ (b : BitStepsOf). b.steps) given) c.loop-step.invariant.steps in
    record {
      steps = subst (λ (n : Net). All (IsStep n) left)
          (sym (ap (λ (d : SeenDirect). d.net) c.in_ok-step-2.ensures.ok))
          (All-tail (IsStep net) (seen_step c.in-Some.step) left all);
      insts = c.step.ensures.insts ∙ c.loop-step.invariant.insts;
    }
