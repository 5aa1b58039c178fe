use Rattle.ij_text.specs.declared.Place.{Place}
use Rattle.ij_text.specs.declared.number.Number.{Number}
use Rattle.ij_text.specs.Numbers.{number_of_text, seen}
use Rattle.table_lines.proofs.Saying.{is_number, bad_number, wide_number, bad_arm, wide_arm, ok_arm}
use Rattle.table_lines.proofs.word.number.Goals as goal

pub returns-in-Ok : goal.returns-in-Ok
returns-in-Ok c =
    let text = c.args.text.now in
    let at : Place = record { line = 1; col = 1 } in
    is_number text (seen c.in-Ok.n) (rw c.in-Ok.n-is at c.in-Ok.ensures.ok)
    (ok_arm c.in-Ok.n at (number_of_text text) c.in-Ok.ensures.too_wide.1)

pub returns-in-Err-BadNumber : goal.returns-in-Err-BadNumber
returns-in-Err-BadNumber c =
    let text = c.args.text.now in
    let at : Place = record { line = 1; col = 1 } in
    let others = rw c.in-Err-BadNumber.field-0-is at c.in-Err-BadNumber.ensures.others in
    let bad = rw c.in-Err-BadNumber.field-0-is at c.in-Err-BadNumber.ensures.bad_number in
    bad_number text (bad_arm {T = Number} c.in-Err-BadNumber.field-0-0 at (number_of_text text) others bad.0)

pub returns-in-Err-TooWide : goal.returns-in-Err-TooWide
returns-in-Err-TooWide c =
    let text = c.args.text.now in
    let at : Place = record { line = 1; col = 1 } in
    let others = rw c.in-Err-TooWide.field-0-is at c.in-Err-TooWide.ensures.others in
    let wide = rw c.in-Err-TooWide.field-0-is at c.in-Err-TooWide.ensures.too_wide in
    wide_number text (wide_arm {T = Number} c.in-Err-TooWide.field-0-0 at (number_of_text text) others wide.0)
