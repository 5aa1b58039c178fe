use Rattle.std.proofs.Common.{◌≤◌, length, arith}
use Rattle.ij_text.specs.Numbers.{tern_bits}
use Rattle.ij_text.proofs.Numbers.{open_length}
use Rattle.table_lines.specs.Words.{is_one}
use Rattle.table_lines.proofs.Saying.{none_past}
use Rattle.table_lines.proofs.word.some_one.Goals as goal

pub returns-else-width-from : goal.returns-else-width-from
returns-else-width-from c =
    let t = c.args.t.now in
    let long = open_length t.value.items t.care.items t.same_length in
    let past : length (tern_bits t) ≤ c.args.width =
    omega (arith, long, c.len.ensures.value, c.from.ensures, c.if-width-from.false) in
    none_past is_one (tern_bits t) c.args.width past
