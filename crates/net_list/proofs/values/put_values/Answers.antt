use Rattle.std.specs.Prelude.{codes}
use Rattle.std.proofs.Common.{◌≡◌, ◌+◌, suc, arith}
use Rattle.ij_io.proofs.Adding.{at_refusal}
use Rattle.net_list.specs.Forms.{tern_text}
use Rattle.net_list.proofs.Pieces.{item_next, item_part, items_done}
use Rattle.net_list.proofs.values.put_values.Goals as goal

pub returns-in_err-put_value-clause-part : goal.returns-in_err-put_value-clause-part
returns-in_err-put_value-clause-part g c =
    at_refusal c.from_residual.result
    (item_part tern_text (codes "|") c.args.values.now c.loop-value.before.now c.loop-value.value-index
    c.loop-value-test.true c.value-item.is c.loop-value.invariant.front c.in_err-put_value.ensures.part)

pub loop-value-preserved : goal.loop-value-preserved
loop-value-preserved g c =
    let next : c.loop-value.value-index + 1 ≡ suc c.loop-value.value-index = omega arith in
    record {
      front = item_next tern_text (codes "|") c.args.values.now c.loop-value.before.now
          c.loop-value.value-index (c.loop-value.value-index + 1) c.loop-value-test.true c.value-item.is next
          c.loop-value.invariant.front c.in_ok-put_value.ensures.whole;
      later = omega (arith, c.put_value.ensures.cause.later);
    }

pub returns-clause-whole : goal.returns-clause-whole
returns-clause-whole g c =
    items_done tern_text (codes "|") c.args.values.now c.loop-value.before.now c.loop-value.value-index
    (omega (arith, c.loop-value-test.false)) c.loop-value.invariant.front
