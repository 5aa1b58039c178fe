use Rattle.std.proofs.Common.{◌≡◌, ◌+◌, suc, ℕ, Some, refl, sym, ap, ◌∙◌, subst, arith}
use Rattle.std.specs.Prelude.{IfSome, is_some}
use Rattle.std.proofs.lemmas.Result.{on_ok_weaker, on_err_weaker}
use Rattle.ij_bits.specs.Room.{Roomy}
use Rattle.ij_io.proofs.Adding.{at_refusal, adds_none}
use Rattle.net_graph.specs.SeenSteps.{seen_group}
use Rattle.net_tree.specs.ScanPlans.{seen_plan}
use Rattle.path_planner.specs.Plans.{Settles}
use Rattle.path_planner.proofs.Depth.{group_shallow}
use Rattle.path_planner.proofs.PlanSteps.{not_deep}
use Rattle.retargeter.specs.Writing.{WritesGroupPart}
use Rattle.retargeter.proofs.Found.{can_open}
use Rattle.retargeter.proofs.Opened.{begin, go_on, stopped, refused, all_written, last_refused, all_after}
use Rattle.retargeter.proofs.scans.put_group.Goals as goal

pub returns-in_err-plans-clause-part : goal.returns-in_err-plans-clause-part
returns-in_err-plans-clause-part g c =
    let part : WritesGroupPart c.args.net.now c.args.tree.now c.args.holds.now (seen_group c.args.group.now)
    (g.K.Sink.taken c.args.k.now) (g.K.Sink.taken c.args.k.now) = λ plans a. adds_none _ refl in
    at_refusal _ part

pub opening-init : goal.opening-init
opening-init g c = record {
  opened = begin c.args.net.now c.args.tree.now (seen_group c.args.group.now) c.args.holds.now
      (g.K.Sink.taken c.args.k.now) (can_open c.args.net.now c.args.tree.now c.requires.network
      c.args.holds.now (seen_group c.args.group.now) c.requires.scannable c.requires.group);
  plans = c.in_ok-plans.ensures c.args.net.now c.args.tree.now;
  path = c.requires.path;
  path_room = c.requires.path_room;
  room = c.requires.room;
  later = omega arith;
}

pub next-requires-clause-path : goal.next-requires-clause-path
next-requires-clause-path g c =
    c.opening.invariant.path.path
    ∙ ap Some (sym (c.as_slice.ensures ∙ ap (λ (l : Roomy ℕ). l.items) c.regs.ensures))

pub returns-in_err-plan-clause-part : goal.returns-in_err-plan-clause-part
returns-in_err-plan-clause-part g c =
    at_refusal _ (stopped c.args.net.now c.args.tree.now (seen_group c.args.group.now)
    c.args.holds.now (g.K.Sink.taken c.args.k.now) c.opening.scans c.opening.holds
    (g.K.Sink.taken c.opening.k)
    c.opening.invariant.opened c.requires.group.named)

pub returns-in_err-put_opening-clause-part : goal.returns-in_err-put_opening-clause-part
returns-in_err-put_opening-clause-part g c =
    let s = subst (λ o. IfSome o (λ plan. Settles c.args.net.now c.args.tree.now
    (seen_group c.args.group.now) c.opening.holds (seen_plan plan))) c.in-Some.is c.in_ok-plan.ensures.some in
    at_refusal _ (refused c.args.net.now c.args.tree.now (seen_group c.args.group.now)
    c.args.holds.now (g.K.Sink.taken c.args.k.now) c.opening.scans c.opening.holds
    (g.K.Sink.taken c.opening.k)
    c.opening.invariant.opened c.requires.group.named (seen_plan c.in-Some.plan) s
    (g.K.Sink.taken c.put_opening.new.k) c.in_err-put_opening.ensures.part)

pub overflow_add-scans : goal.overflow_add-scans
overflow_add-scans g c =
    let s = subst (λ o. IfSome o (λ plan. Settles c.args.net.now c.args.tree.now
    (seen_group c.args.group.now) c.opening.holds (seen_plan plan))) c.in-Some.is c.in_ok-plan.ensures.some in
    omega (
      arith,
      not_deep c.args.net.now c.args.tree.now (seen_group c.args.group.now) c.opening.holds c.opening.scans
          c.opening.invariant.opened.can c.opening.invariant.opened.opened s.off_path,
      group_shallow c.args.net.now c.args.tree.now (seen_group c.args.group.now) c.opening.holds
          c.opening.invariant.opened.can,
    )

pub opening-smaller : goal.opening-smaller
opening-smaller g c =
    let s = subst (λ o. IfSome o (λ plan. Settles c.args.net.now c.args.tree.now
    (seen_group c.args.group.now) c.opening.holds (seen_plan plan))) c.in-Some.is c.in_ok-plan.ensures.some in
    omega (
      arith,
      not_deep c.args.net.now c.args.tree.now (seen_group c.args.group.now) c.opening.holds c.opening.scans
          c.opening.invariant.opened.can c.opening.invariant.opened.opened s.off_path,
    )

pub opening-preserved : goal.opening-preserved
opening-preserved g c =
    let s = subst (λ o. IfSome o (λ plan. Settles c.args.net.now c.args.tree.now
    (seen_group c.args.group.now) c.opening.holds (seen_plan plan))) c.in-Some.is c.in_ok-plan.ensures.some in
    let more : c.opening.scans + 1 ≡ suc c.opening.scans = omega arith in
    record {
      opened = go_on c.args.net.now c.args.tree.now (seen_group c.args.group.now) c.args.holds.now
          (g.K.Sink.taken c.args.k.now) c.opening.scans c.opening.holds (g.K.Sink.taken c.opening.k)
          c.opening.invariant.opened (seen_plan c.in-Some.plan) s _ c.put_opening.new.holds
          (g.K.Sink.taken c.put_opening.new.k) more c.in_ok-put_opening.ensures.holds
          c.in_ok-put_opening.ensures.whole;
      plans = c.next.ensures.opening;
      path = c.put_opening.ensures.path;
      path_room = c.put_opening.ensures.path_room;
      room = c.put_opening.ensures.room;
      later = omega (arith, c.put_opening.ensures.cause.later, c.opening.invariant.later);
    }

pub returns-clause-whole : goal.returns-clause-whole
returns-clause-whole g c =
    let t = c.in_ok-plan.ensures.none (ap is_some c.in_default.is) in
    on_ok_weaker c.put_last.result (all_written c.args.net.now c.args.tree.now (seen_group c.args.group.now)
    c.args.holds.now (g.K.Sink.taken c.args.k.now) c.opening.scans c.opening.holds
    (g.K.Sink.taken c.opening.k)
    c.opening.invariant.opened c.requires.group.named t) c.put_last.ensures.whole

pub returns-clause-part : goal.returns-clause-part
returns-clause-part g c =
    let t = c.in_ok-plan.ensures.none (ap is_some c.in_default.is) in
    on_err_weaker c.put_last.result (last_refused c.args.net.now c.args.tree.now (seen_group c.args.group.now)
    c.args.holds.now (g.K.Sink.taken c.args.k.now) c.opening.scans c.opening.holds
    (g.K.Sink.taken c.opening.k)
    c.opening.invariant.opened c.requires.group.named t) c.put_last.ensures.part

pub returns-clause-holds : goal.returns-clause-holds
returns-clause-holds g c =
    let t = c.in_ok-plan.ensures.none (ap is_some c.in_default.is) in
    on_ok_weaker c.put_last.result (all_after c.args.net.now c.args.tree.now (seen_group c.args.group.now)
    c.args.holds.now (g.K.Sink.taken c.args.k.now) c.opening.scans c.opening.holds
    (g.K.Sink.taken c.opening.k)
    c.opening.invariant.opened c.requires.group.named t) c.put_last.ensures.holds
