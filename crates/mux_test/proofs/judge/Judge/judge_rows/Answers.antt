use Rattle.mux_test.proofs.Judged.{next_row_judged, row_there}
use Rattle.mux_test.proofs.judge.Judge.judge_rows.Goals as goal

pub loop-i-preserved : goal.loop-i-preserved
loop-i-preserved c =
    record {
      rows = next_row_judged c.args.net.now c.args.holds.now c.args.rows.now.items c.loop-i.rows.items
          c.judge_at.new.rows.items c.loop-i.i c.loop-i.invariant.rows c.judge_at.ensures.rows;
      there = row_there c.args.net.now c.args.holds.now c.loop-i.rows.items c.judge_at.new.rows.items
          c.loop-i.i c.judge_at.ensures.rows c.loop-i.invariant.there;
      ready = c.judge_at.ensures.ready;
    }
