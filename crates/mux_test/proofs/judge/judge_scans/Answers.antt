use Rattle.std.proofs.Common.{drop}
use Rattle.std.specs.Prelude.{map}
use Rattle.mux_test.specs.Planned.{seen_planned}
use Rattle.mux_test.proofs.Planning.{flushable_now}
use Rattle.mux_test.proofs.Judged.{all_judged, next_alike, next_can, next_judged, was_empty, writes_held}
use Rattle.mux_test.proofs.judge.judge_scans.Goals as goal

pub loop-scan-preserved : goal.loop-scan-preserved
loop-scan-preserved c =
    let net = c.args.net.now in
    let i = c.loop-scan.scan-index in
    let h = c.loop-scan.holds in
    record {
      can = next_can net c.args.scans.now i c.scan-item.result c.loop-scan-test.true c.scan-item.is h
          c.take_plan_writes.new.holds c.take_plan_writes.ensures c.loop-scan.invariant.can;
      judged = next_judged net c.args.scans.now i c.scan-item.result c.loop-scan-test.true c.scan-item.is h
          c.take_plan_writes.new.holds c.take_plan_writes.ensures c.loop-scan.rows.items
          c.judge_changed.new.rows.items _
          c.judge_changed.ensures.rows c.loop-scan.invariant.judged;
      there = all_judged net h c.loop-scan.rows.items c.judge_changed.new.rows.items
          c.judge_changed.ensures.rows c.loop-scan.invariant.there;
      alike = λ same. next_alike net h c.take_plan_writes.new.holds c.scan-item.result.plan.writes.items
          c.loop-scan.rows.items c.judge_changed.new.rows.items c.take_plan_writes.ensures
          (c.is_empty-changed.ensures.0 (was_empty c.is_empty-changed.result same))
          c.judge_changed.ensures.rows;
      room = c.judge_changed.ensures.room;
    }

pub take_plan_writes-requires : goal.take_plan_writes-requires
take_plan_writes-requires c =
    writes_held c.args.net.now c.args.scans.now c.loop-scan.scan-index c.scan-item.result
    c.loop-scan-test.true c.scan-item.is c.loop-scan.holds c.loop-scan.invariant.can

pub judge_changed-requires-clause-scannable : goal.judge_changed-requires-clause-scannable
judge_changed-requires-clause-scannable c =
    flushable_now c.args.net.now c.loop-scan.holds
    (map seen_planned (drop c.loop-scan.scan-index c.args.scans.now)) c.loop-scan.invariant.can
