use Rattle.std.proofs.Common.{ap, sym, ◌∙◌, drop}
use Rattle.table_lines.specs.Lines.{words}
use Rattle.table_lines.specs.Reading.{run_length}
use Rattle.table_lines.specs.declared.bytes.Class.TheVariants.{Blank}
use Rattle.table_lines.proofs.Runs.{after_blanks_is, no_more_blanks}
use Rattle.table_lines.proofs.bytes.after_blanks.Goals as goal

pub returns-clause-words : goal.returns-clause-words
returns-clause-words c =
    let text = c.args.text.now in
    after_blanks_is text ∙ ap (λ n. words (drop n text)) (sym c.run_len.ensures.value)
    ∙ ap words (sym c.split_at.ensures.back)

pub returns-clause-stops : goal.returns-clause-stops
returns-clause-stops c =
    let text = c.args.text.now in
    ap (run_length Blank) c.split_at.ensures.back
    ∙ ap (λ n. run_length Blank (drop n text)) c.run_len.ensures.value ∙ no_more_blanks text
