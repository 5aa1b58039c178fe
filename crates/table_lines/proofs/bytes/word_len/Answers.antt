use Rattle.std.proofs.Common.{sym, ◌∙◌}
use Rattle.table_lines.proofs.Runs.{word_front}
use Rattle.table_lines.proofs.bytes.word_len.Goals as goal

pub returns-else-is_mark-clause-value : goal.returns-else-is_mark-clause-value
returns-else-is_mark-clause-value c =
    word_front c.args.text.now c.run_len.result c.requires.some c.requires.no_blank
    (sym c.is_mark.ensures ∙ c.if-is_mark.false) c.run_len.ensures.value
