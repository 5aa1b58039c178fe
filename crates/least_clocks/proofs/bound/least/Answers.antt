use Rattle.std.proofs.Common.{◌∙◌, ap, arith, sym}
use Rattle.net_graph.specs.SeenSteps.{seen_step}
use Rattle.merge_order.specs.BitSteps.{BitStepsOf}
use Rattle.least_clocks.proofs.Stepping.{at_next, at_start, given, held_at_start, later_steps, room_left}
use Rattle.least_clocks.proofs.bound.least.Goals as goal

pub loop-count-init : goal.loop-count-init
loop-count-init c = record {
  counts = at_start c.args.net.now c.args.tree.now c.args.device.now c.in_ok-count.count
      c.args.steps.now.steps c.in_ok-count.ensures.state c.in_ok-count.ensures.clocks;
  fault = c.requires.no_fault;
  valid = c.requires.steps;
  holds = held_at_start c.args.net.now c.in_ok-count.count c.in_ok-count.ensures.state;
  room = omega (arith, c.in_ok-count.ensures.clocks, c.requires.few_steps, c.requires.few_rounds);
}

pub loop-count-preserved-in_ok-step-2 : goal.loop-count-preserved-in_ok-step-2
loop-count-preserved-in_ok-step-2 c =
    let old = c.loop-count.steps in
    let new = c.next_step.new.steps in
    let s = seen_step c.in-Some.step in
    let e = given c.in_ok-step.field-0 c.in-Some.step old new c.in_ok-step.ensures.given c.in-Some.is in
    record {
      counts = at_next c.args.net.now c.args.tree.now c.args.device.now c.loop-count.count c.step.new.self s
          old new _ e c.loop-count.invariant.counts c.in_ok-step-2.ensures.counts;
      fault = ap (λ (b : BitStepsOf). b.fault) (sym e) ∙ c.loop-count.invariant.fault;
      valid = later_steps c.args.net.now s old new e c.loop-count.invariant.valid;
      holds = c.in_ok-step-2.ensures.holds;
      room = room_left c.loop-count.count.clocks c.step.new.self.clocks _ s old new e
          c.loop-count.invariant.room c.in_ok-step-2.ensures.few;
    }

pub loop-count-preserved : goal.loop-count-preserved
loop-count-preserved c =
    let old = c.loop-count.steps in
    let new = c.next_step.new.steps in
    let s = seen_step c.in-Some.step in
    let e = given c.in_ok-step.field-0 c.in-Some.step old new c.in_ok-step.ensures.given c.in-Some.is in
    record {
      counts = at_next c.args.net.now c.args.tree.now c.args.device.now c.loop-count.count c.step.new.self s
          old new _ e c.loop-count.invariant.counts c.in_ok-step-2.ensures.counts;
      fault = ap (λ (b : BitStepsOf). b.fault) (sym e) ∙ c.loop-count.invariant.fault;
      valid = later_steps c.args.net.now s old new e c.loop-count.invariant.valid;
      holds = c.in_ok-step-2.ensures.holds;
      room = room_left c.loop-count.count.clocks c.step.new.self.clocks _ s old new e
          c.loop-count.invariant.room c.in_ok-step-2.ensures.few;
    }
