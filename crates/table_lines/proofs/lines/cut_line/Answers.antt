use Rattle.std.proofs.Common.{ap, ◌∙◌, ◌∷◌, [], List, ℕ}
use Rattle.table_lines.proofs.Lined.{line_cut, line_last}
use Rattle.table_lines.proofs.lines.cut_line.Goals as goal

pub returns-in-Some-clause-lines : goal.returns-in-Some-clause-lines
returns-in-Some-clause-lines c =
    line_cut c.args.text.now c.cut_at-cut.result.front.now c.in-Some.after.now
    (rw c.in-Some.is at c.cut_at-cut.ensures.pieces)

pub returns-in-None-clause-lines : goal.returns-in-None-clause-lines
returns-in-None-clause-lines c =
    let one = rw c.in-None.is at c.cut_at-cut.ensures.pieces in
    let all = rw c.in-None.is at c.cut_at-cut.ensures.whole in
    line_last c.args.text.now (one ∙ ap (λ (front : List ℕ). front ∷ []) all)
