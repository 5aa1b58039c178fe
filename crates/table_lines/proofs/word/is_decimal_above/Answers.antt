use Rattle.std.proofs.Common.{◌^◌, false, sym, ◌∙◌}
use Rattle.ij_text.proofs.Widths.{beyond}
use Rattle.table_lines.proofs.Above.{none_above}
use Rattle.std.proofs.lemmas.Bool.{le-ltb}
use Rattle.table_lines.proofs.word.is_decimal_above.Goals as goal

pub returns-else-width-lt128 : goal.returns-else-width-lt128
returns-else-width-lt128 c =
    le-ltb c.args.width 128 c.if-width-lt128.false ∙ sym (none_above (2 ^ c.args.width) c.args.n
    (beyond c.args.n c.args.width c.ranges.n.fits c.if-width-lt128.false))
