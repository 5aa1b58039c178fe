use Rattle.std.proofs.Common.{◌^◌, false, sym, ◌∙◌}
use Rattle.ij_text.proofs.Widths.{beyond}
use Rattle.table_lines.proofs.Above.{shifted_is, none_above}
use Rattle.std.proofs.lemmas.Bool.{le-ltb}
use Rattle.table_lines.proofs.word.is_above_decimal.Goals as goal

pub returns-then-width-lt128 : goal.returns-then-width-lt128
returns-then-width-lt128 c = shifted_is c.args.n c.args.width

pub returns-else-width-lt128 : goal.returns-else-width-lt128
returns-else-width-lt128 c =
    le-ltb c.args.width 128 c.if-width-lt128.false ∙ sym (none_above (2 ^ c.args.width) c.args.n
    (beyond c.args.n c.args.width c.ranges.n.fits c.if-width-lt128.false))
