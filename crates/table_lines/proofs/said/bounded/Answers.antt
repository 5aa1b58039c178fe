use Rattle.table_lines.proofs.Closing.{second_colon}
use Rattle.table_lines.proofs.said.bounded.Goals as goal

pub returns-in-Some-after : goal.returns-in-Some-after
returns-in-Some-after c =
    let first = rw c.in-Some.is at c.cut_at-cut.ensures.pieces in
    let second = rw c.in-Some-after.is at c.cut_at-second.ensures.pieces in
    second_colon c.args.found.name.now c.args.found.inside.now c.cut_at-cut.result.front.now
    c.in-Some.after.now c.cut_at-second.result.front.now c.in-Some-after.field-0.now first second
