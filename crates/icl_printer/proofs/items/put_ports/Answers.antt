use Rattle.icl_lexer.specs.Views.{bytes_of}
use Rattle.icl_printer.specs.Canonical.{member_tokens}
use Rattle.std.proofs.Common.{◌≡◌, ◌<◌, ◌≤◌, length, get_or, arith, ap}
use Rattle.ij_io.proofs.Adding.{at_refusal}
use Rattle.icl_printer.proofs.Laid.{part_next, part_refused, parts_done}
use Rattle.icl_printer.proofs.items.put_ports.Goals as goal

pub returns-in_err-put_tokens-clause-part : goal.returns-in_err-put_tokens-clause-part
returns-in_err-put_tokens-clause-part g c =
    let items = c.args.ports.now.items in
    let within : c.loop-port.port-index
    < length items = omega (arith, c.loop-port-test.true, ap length c.as_slice-port-items.ensures) in
    let is : c.port-item.result ≡ get_or items c.loop-port.port-index c.port-item.result =
    rw c.as_slice-port-items.ensures at c.port-item.is in
    at_refusal c.from_residual.result
    (part_refused member_tokens bytes_of items c.loop-port.port-index c.port-item.result within is
    c.loop-port.invariant.front c.in_err-put_tokens.ensures.part)

pub loop-port-preserved : goal.loop-port-preserved
loop-port-preserved g c =
    let items = c.args.ports.now.items in
    let within : c.loop-port.port-index
    < length items = omega (arith, c.loop-port-test.true, ap length c.as_slice-port-items.ensures) in
    let is : c.port-item.result ≡ get_or items c.loop-port.port-index c.port-item.result =
    rw c.as_slice-port-items.ensures at c.port-item.is in
    record {
      front = part_next member_tokens bytes_of items c.loop-port.port-index c.port-item.result within is
          c.loop-port.invariant.front c.in_ok-put_tokens.ensures.whole;
      later = omega (arith, c.put_tokens.ensures.cause.later, c.loop-port.invariant.later);
    }

pub returns-clause-whole : goal.returns-clause-whole
returns-clause-whole g c =
    let items = c.args.ports.now.items in
    let done : length items ≤ c.loop-port.port-index =
    omega (arith, c.loop-port-test.false, ap length c.as_slice-port-items.ensures) in
    parts_done member_tokens bytes_of items c.loop-port.port-index done c.loop-port.invariant.front
