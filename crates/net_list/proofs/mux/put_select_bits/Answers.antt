use Rattle.std.proofs.Common.{◌≡◌, ◌-◌, ◌+◌, suc, length, arith}
use Rattle.ij_io.proofs.Adding.{at_refusal}
use Rattle.net_list.proofs.Pieces.{bit_next, bit_part}
use Rattle.net_list.proofs.mux.put_select_bits.Goals as goal

pub returns-in_err-put_bit-clause-part : goal.returns-in_err-put_bit-clause-part
returns-in_err-put_bit-clause-part g c =
    let f = c.args.format in
    let net = c.args.net.now in
    let bits = c.args.bits.now in
    let before = c.loop-j.before.now in
    let n = length bits - c.loop-j.j in
    let m = length bits - (c.loop-j.j + 1) in
    let more : n ≡ suc m = omega (arith, c.loop-j-test.true) in
    let place : length bits - 1 - c.loop-j.j ≡ m = omega arith in
    at_refusal c.from_residual.result (bit_part f net before bits n m _ c.from_left.result more place
    c.from_left.ensures c.loop-j.invariant.front c.in_err-put_bit.ensures.part)

pub loop-j-preserved : goal.loop-j-preserved
loop-j-preserved g c =
    let f = c.args.format in
    let net = c.args.net.now in
    let bits = c.args.bits.now in
    let before = c.loop-j.before.now in
    let n = length bits - c.loop-j.j in
    let m = length bits - (c.loop-j.j + 1) in
    let more : n ≡ suc m = omega (arith, c.loop-j-test.true) in
    let place : length bits - 1 - c.loop-j.j ≡ m = omega arith in
    record {
      front = bit_next f net before bits n m _ c.from_left.result c.text_or_json-between.result.now more place
          c.from_left.ensures c.text_or_json-between.ensures c.loop-j.invariant.front
          c.in_ok-put_bit.ensures.whole;
      later = omega (arith, c.put_bit.ensures.cause.later);
    }
