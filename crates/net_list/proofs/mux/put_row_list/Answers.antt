use Rattle.std.proofs.Common.{◌≡◌, ◌+◌, suc, arith}
use Rattle.ij_io.proofs.Adding.{at_refusal}
use Rattle.net_list.specs.Lines.{row_text}
use Rattle.net_list.proofs.Pieces.{item_next, item_part, items_done}
use Rattle.net_list.proofs.mux.put_row_list.Goals as goal

pub returns-in_err-put_row-clause-part : goal.returns-in_err-put_row-clause-part
returns-in_err-put_row-clause-part g c =
    at_refusal c.from_residual.result
    (item_part (row_text c.args.format c.args.net.now c.args.mux) c.args.between.now c.args.rows.now
    c.loop-row.before.now c.loop-row.row-index c.loop-row-test.true c.row-item.is
    c.loop-row.invariant.front c.in_err-put_row.ensures.part)

pub loop-row-preserved : goal.loop-row-preserved
loop-row-preserved g c =
    let next : c.loop-row.row-index + 1 ≡ suc c.loop-row.row-index = omega arith in
    record {
      front = item_next (row_text c.args.format c.args.net.now c.args.mux) c.args.between.now c.args.rows.now
          c.loop-row.before.now c.loop-row.row-index (c.loop-row.row-index + 1) c.loop-row-test.true
          c.row-item.is next c.loop-row.invariant.front c.in_ok-put_row.ensures.whole;
      later = omega (arith, c.put_row.ensures.cause.later);
    }

pub returns-clause-whole : goal.returns-clause-whole
returns-clause-whole g c =
    items_done (row_text c.args.format c.args.net.now c.args.mux) c.args.between.now c.args.rows.now
    c.loop-row.before.now c.loop-row.row-index
    (omega (arith, c.loop-row-test.false)) c.loop-row.invariant.front
