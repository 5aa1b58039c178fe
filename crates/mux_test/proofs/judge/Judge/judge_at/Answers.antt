use Rattle.std.proofs.Common.{refl}
use Rattle.mux_test.proofs.Judged.{row_put, row_stays}
use Rattle.mux_test.proofs.judge.Judge.judge_at.Goals as goal

pub returns-then-not-is_row_untold-clause-rows : goal.returns-then-not-is_row_untold-clause-rows
returns-then-not-is_row_untold-clause-rows c =
    let net = c.args.net.now in
    let holds = c.args.holds.now in
    row_stays net holds c.args.rows.now.items c.args.i c.get-row.result.now c.get-row.ensures
    (c.if-not-is_row_untold.ensures refl net holds)

pub returns-clause-rows : goal.returns-clause-rows
returns-clause-rows c =
    row_put c.args.net.now c.args.holds.now c.args.rows.now.items c.set.new.self.items c.args.i
    c.get-row.result.now c.judge.result c.get-row.ensures c.judge.ensures.row c.set.ensures.items
