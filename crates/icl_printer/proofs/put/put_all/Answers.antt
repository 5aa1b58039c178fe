use Rattle.std.proofs.Common.{◌≡◌, ◌<◌, ◌≤◌, length, get_or, arith, ap}
use Rattle.ij_io.proofs.Adding.{at_refusal}
use Rattle.icl_printer.proofs.Laid.{part_next, part_refused, parts_done}
use Rattle.icl_printer.proofs.put.put_all.Goals as goal

pub returns-in_err-put-clause-part : goal.returns-in_err-put-clause-part
returns-in_err-put-clause-part g c =
    let items = c.args.parts.now.items in
    let within : c.loop-part.part-index
    < length items = omega (arith, c.loop-part-test.true, ap length c.as_slice-part-items.ensures) in
    let is : c.part-item.result ≡ get_or items c.loop-part.part-index c.part-item.result =
    rw c.as_slice-part-items.ensures at c.part-item.is in
    at_refusal c.from_residual.result
    (part_refused g.T.Put.tokens g.T.Put.view items c.loop-part.part-index c.part-item.result within is
    c.loop-part.invariant.front c.in_err-put.ensures.part)

pub loop-part-preserved : goal.loop-part-preserved
loop-part-preserved g c =
    let items = c.args.parts.now.items in
    let within : c.loop-part.part-index
    < length items = omega (arith, c.loop-part-test.true, ap length c.as_slice-part-items.ensures) in
    let is : c.part-item.result ≡ get_or items c.loop-part.part-index c.part-item.result =
    rw c.as_slice-part-items.ensures at c.part-item.is in
    record {
      front = part_next g.T.Put.tokens g.T.Put.view items c.loop-part.part-index c.part-item.result within is
          c.loop-part.invariant.front c.in_ok-put.ensures.whole;
      later = omega (arith, c.put.ensures.cause.later, c.loop-part.invariant.later);
    }

pub returns-clause-whole : goal.returns-clause-whole
returns-clause-whole g c =
    let items = c.args.parts.now.items in
    let done : length items ≤ c.loop-part.part-index =
    omega (arith, c.loop-part-test.false, ap length c.as_slice-part-items.ensures) in
    parts_done g.T.Put.tokens g.T.Put.view items c.loop-part.part-index done c.loop-part.invariant.front
