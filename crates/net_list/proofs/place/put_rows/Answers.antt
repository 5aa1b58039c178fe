use Rattle.std.proofs.Common.{◌≡◌, ◌+◌, suc, arith}
use Rattle.std.proofs.lemmas.List.{get_or_default}
use Rattle.ij_io.proofs.Adding.{at_refusal}
use Rattle.net_list.specs.Lines.{branch_text}
use Rattle.net_list.proofs.Pieces.{item_next, item_part, items_done}
use Rattle.net_list.proofs.place.put_rows.Goals as goal

pub returns-in_err-put_next_row-clause-part : goal.returns-in_err-put_next_row-clause-part
returns-in_err-put_next_row-clause-part g c =
    at_refusal c.from_residual.result
    (item_part (branch_text c.args.format c.args.net.now) c.args.between.now c.args.place.now
    c.loop-branch.before.now c.loop-branch.branch-index c.loop-branch-test.true (get_or_default _ _ _ _
    c.loop-branch-test.true) c.loop-branch.invariant.front c.in_err-put_next_row.ensures.part)

pub loop-branch-preserved : goal.loop-branch-preserved
loop-branch-preserved g c =
    let next : c.loop-branch.branch-index + 1 ≡ suc c.loop-branch.branch-index = omega arith in
    record {
      front = item_next (branch_text c.args.format c.args.net.now) c.args.between.now c.args.place.now
          c.loop-branch.before.now c.loop-branch.branch-index (c.loop-branch.branch-index + 1)
          c.loop-branch-test.true (get_or_default _ _ _ _ c.loop-branch-test.true) next
          c.loop-branch.invariant.front c.in_ok-put_next_row.ensures.whole;
      later = omega (arith, c.put_next_row.ensures.cause.later);
    }

pub returns-clause-whole : goal.returns-clause-whole
returns-clause-whole g c =
    items_done (branch_text c.args.format c.args.net.now) c.args.between.now c.args.place.now
    c.loop-branch.before.now c.loop-branch.branch-index
    (omega (arith, c.loop-branch-test.false)) c.loop-branch.invariant.front
