use Rattle.mux_test.proofs.Listing.{row_listed}
use Rattle.mux_test.proofs.planned.push_rows.Goals as goal

pub loop-row-preserved : goal.loop-row-preserved
loop-row-preserved c =
    row_listed c.loop-row.branches.items c.push.new.self.items _ c.args.mux c.loop-row.row c.args.rows.now
    c.loop-row-test.true c.in_ok-push.ensures.ok c.loop-row.invariant
