use Rattle.std.proofs.Common.{◌≡◌, ◌≤◌, length, arith}
use Rattle.std.proofs.lemmas.List.{nil_from_length}
use Rattle.std.proofs.lemmas.Bool.Decides.{nat_tests}
use Rattle.table_lines.proofs.Parting.{last_part, first_part}
use Rattle.table_lines.proofs.parts.next_part.Goals as goal

pub returns-then-is_empty-clause-parts : goal.returns-then-is_empty-clause-parts
returns-then-is_empty-clause-parts c =
    let none : length c.split_at.result.1.now ≡ 0 = grind (arith, nat_tests) in
    last_part c.part_len.result c.args.words.now c.split_at.result.0.now c.split_at.result.1.now
    c.part_len.ensures.value c.split_at.ensures.front c.split_at.ensures.back
    (nil_from_length c.split_at.result.1.now none)

pub returns-clause-parts : goal.returns-clause-parts
returns-clause-parts c =
    let some : 1 ≤ length c.split_at.result.1.now = grind (arith, nat_tests) in
    first_part c.part_len.result c.args.words.now c.split_at.result.0.now c.split_at.result.1.now
    c.split_at-2.result.1.now c.part_len.ensures.value c.split_at.ensures.front
    c.split_at.ensures.back some c.split_at-2.ensures.back
