use Rattle.std.proofs.Common.{◌≡◌, ◌-◌, ◌+◌, ◌*◌, length, ap, sym, ◌∙◌, arith}
use Rattle.std.specs.Prelude.{if◌then◌else◌}
use Rattle.table_lines.specs.Words.{is_one}
use Rattle.ij_text.specs.Numbers.{tern_bits}
use Rattle.ij_text.proofs.Numbers.{open_length}
use Rattle.table_lines.proofs.PlainNumbers.{none, one_more, half, whole}
use Rattle.table_lines.proofs.word.digits_number.Goals as goal

pub loop-k-init : goal.loop-k-init
loop-k-init c =
    let t = c.args.t.now in
    let long : length (tern_bits t) ≡ c.len-len.result =
    omega (arith, open_length t.value.items t.care.items t.same_length, c.len-len.ensures.value) in
    none is_one c.len-len.result (tern_bits t) long

pub loop-k-preserved : goal.loop-k-preserved
loop-k-preserved c =
    let t = c.args.t.now in
    let n = c.loop-k.n in
    let long : length (tern_bits t) ≡ c.len-len.result =
    omega (arith, open_length t.value.items t.care.items t.same_length, c.len-len.ensures.value) in
    let bit = c.with_bit-n.ensures ∙ ap (λ v. (if v then 1 else 0) + 2 * n) c.is_one.ensures in
    bit ∙ one_more is_one c.len-len.result c.loop-k.k n
    (tern_bits t) c.bit_at.result long c.loop-k-test.true c.bit_at.ensures c.loop-k.invariant

pub with_bit-n-requires : goal.with_bit-n-requires
with_bit-n-requires c =
    let t = c.args.t.now in
    let n = c.loop-k.n in
    let len = c.len-len.result in
    let long : length (tern_bits t) ≡ len =
    omega (arith, open_length t.value.items t.care.items t.same_length, c.len-len.ensures.value) in
    half is_one (is_one c.bit_at.result) (len - (c.loop-k.k + 1)) n
    (tern_bits t) (one_more is_one len c.loop-k.k n
    (tern_bits t) c.bit_at.result long c.loop-k-test.true c.bit_at.ensures c.loop-k.invariant) c.requires

pub returns : goal.returns
returns c = whole is_one c.len-len.result c.loop-k.k c.loop-k.n
    (tern_bits c.args.t.now) c.loop-k-test.false c.loop-k.invariant
