use Rattle.std.proofs.Common.{◌≡◌, ◌+◌, suc, arith}
use Rattle.run_report.proofs.Going.{plan_noted}
use Rattle.run_report.proofs.scans.note_plans_reads.Goals as goal

pub loop-plan-preserved : goal.loop-plan-preserved
loop-plan-preserved c =
    let next : c.loop-plan.plan-index + 1 ≡ suc c.loop-plan.plan-index = omega arith in
    let one : c.loop-plan.scan + 1 ≡ suc c.loop-plan.scan = omega arith in
    record {
      goes = plan_noted c.args.net.now c.args.holds.now c.args.plans.now c.args.scans c.args.places.now.items
          c.loop-plan.plan-index c.loop-plan.holds c.loop-plan.scan c.loop-plan.places.items
          c.loop-plan.invariant.goes c.plan-item.result c.loop-plan-test.true c.plan-item.is _ _
          c.take_plan_writes.new.holds c.note_plan_reads.new.places.items next one
          c.take_plan_writes.ensures c.in_ok-note_plan_reads.ensures.places;
      room = c.note_plan_reads.ensures.room;
    }
