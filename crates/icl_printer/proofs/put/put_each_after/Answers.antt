use Rattle.ij_io.proofs.Adding.{at_refusal}
use Rattle.icl_printer.specs.Canonical.{after}
use Rattle.icl_printer.proofs.Laid.{part_next, part_refused, parts_done}
use Rattle.std.proofs.Common.{arith}
use Rattle.icl_printer.proofs.put.put_each_after.Goals as goal

pub returns-in_err-put_after-clause-part : goal.returns-in_err-put_after-clause-part
returns-in_err-put_after-clause-part g c =
    at_refusal c.from_residual.result
    (part_refused (after c.args.mark g.T.Put.tokens) g.T.Put.view c.args.parts.now c.loop-part.part-index
    c.part-item.result c.loop-part-test.true c.part-item.is
    c.loop-part.invariant.front c.in_err-put_after.ensures.part)

pub loop-part-preserved : goal.loop-part-preserved
loop-part-preserved g c = record {
  front = part_next (after c.args.mark g.T.Put.tokens) g.T.Put.view c.args.parts.now c.loop-part.part-index
      c.part-item.result c.loop-part-test.true c.part-item.is
      c.loop-part.invariant.front c.in_ok-put_after.ensures.whole;
  later = omega (arith, c.put_after.ensures.cause.later, c.loop-part.invariant.later);
}

pub returns-clause-whole : goal.returns-clause-whole
returns-clause-whole g c = parts_done (after c.args.mark g.T.Put.tokens) g.T.Put.view c.args.parts.now
    c.loop-part.part-index c.loop-part-test.false c.loop-part.invariant.front
