use Rattle.table_lines.proofs.Closing.{second_bracket}
use Rattle.table_lines.proofs.said.bracketed.Goals as goal

pub returns-in-Some : goal.returns-in-Some
returns-in-Some c =
    let first = rw c.in_ok-rest.was at c.cut_at-cut.ensures.pieces in
    let second = rw c.in-Some.is at c.cut_at-second.ensures.pieces in
    second_bracket c.args.text.now c.cut_at-cut.result.front.now c.in_ok-rest.rest.now
    c.cut_at-second.result.front.now c.in-Some.field-0.now first second
