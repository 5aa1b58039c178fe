use Rattle.std.proofs.Common.{◌≤◌, length, drop, arith}
use Rattle.std.specs.List.{list_any}
use Rattle.ij_text.specs.Numbers.{tern_bits}
use Rattle.ij_text.proofs.Numbers.{open_length}
use Rattle.table_lines.specs.Words.{is_one}
use Rattle.table_lines.proofs.Saying.{none_after}
use Rattle.table_lines.proofs.word.some_one_from.Goals as goal

pub returns : goal.returns
returns c =
    let t = c.args.t.now in
    let long = open_length t.value.items t.care.items t.same_length in
    let past : length (tern_bits t) ≤ c.loop-k.k =
    omega (arith, long, c.len-k-end.ensures.value, c.loop-k-test.false) in
    none_after is_one (tern_bits t) c.loop-k.k
    (list_any is_one (drop c.args.width (tern_bits t))) past c.loop-k.invariant
