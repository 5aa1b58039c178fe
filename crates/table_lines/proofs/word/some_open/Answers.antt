use Rattle.std.proofs.Common.{◌≤◌, length, arith}
use Rattle.ij_text.specs.Numbers.{tern_bits}
use Rattle.ij_text.proofs.Numbers.{open_length}
use Rattle.table_lines.specs.Words.{is_open}
use Rattle.table_lines.proofs.Saying.{none_left}
use Rattle.table_lines.proofs.word.some_open.Goals as goal

pub returns : goal.returns
returns c =
    let t = c.args.t.now in
    let long = open_length t.value.items t.care.items t.same_length in
    let past : length (tern_bits t) ≤ c.loop-i.i =
    omega (arith, long, c.len-i-end.ensures.value, c.loop-i-test.false) in
    none_left is_open (tern_bits t) c.loop-i.i past c.loop-i.invariant
