use Rattle.std.proofs.Common.{◌≡◌, ◌+◌, suc, arith}
use Rattle.ij_io.proofs.Adding.{at_refusal}
use Rattle.net_list.specs.Lines.{output_text}
use Rattle.net_list.proofs.Pieces.{item_next, item_part, items_done}
use Rattle.net_list.proofs.instrument.put_outputs.Goals as goal

pub returns-in_err-put_output-clause-part : goal.returns-in_err-put_output-clause-part
returns-in_err-put_output-clause-part g c =
    at_refusal c.from_residual.result
    (item_part (output_text c.args.format) c.args.between.now c.args.ports.now c.loop-port.before.now
    c.loop-port.port-index c.loop-port-test.true c.port-item.is
    c.loop-port.invariant.front c.in_err-put_output.ensures.part)

pub loop-port-preserved : goal.loop-port-preserved
loop-port-preserved g c =
    let next : c.loop-port.port-index + 1 ≡ suc c.loop-port.port-index = omega arith in
    record {
      front = item_next (output_text c.args.format) c.args.between.now c.args.ports.now c.loop-port.before.now
          c.loop-port.port-index (c.loop-port.port-index + 1) c.loop-port-test.true c.port-item.is next
          c.loop-port.invariant.front c.in_ok-put_output.ensures.whole;
      later = omega (arith, c.put_output.ensures.cause.later);
    }

pub returns-clause-whole : goal.returns-clause-whole
returns-clause-whole g c =
    items_done (output_text c.args.format) c.args.between.now c.args.ports.now c.loop-port.before.now
    c.loop-port.port-index (omega (arith, c.loop-port-test.false)) c.loop-port.invariant.front
