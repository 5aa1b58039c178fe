use Rattle.std.proofs.Common.{◌≡◌, ap, sym, ◌∙◌, length, arith}
use Rattle.std.proofs.lemmas.List.{nil_from_length}
use Rattle.std.proofs.lemmas.Bool.Decides.{nat_tests}
use Rattle.table_lines.specs.Reading.{lines_left}
use Rattle.table_lines.proofs.Lined.{no_lines}
use Rattle.table_lines.proofs.lines.next_line.Goals as goal

pub returns-clause-value : goal.returns-clause-value
returns-clause-value c =
    let none : length c.loop-rest.rest.now ≡ 0 = grind (arith, nat_tests) in
    sym c.loop-rest.invariant.so_far ∙ ap (lines_left c.loop-rest.number)
    (nil_from_length c.loop-rest.rest.now none) ∙ no_lines c.loop-rest.number
