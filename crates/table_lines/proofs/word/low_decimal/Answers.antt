use Rattle.std.proofs.Common.{ap, bit_and, ◌∙◌, sym}
use Rattle.std.proofs.lemmas.Nat.{and_mask}
use Rattle.table_lines.proofs.Lows.{shifted_one, decimal_bits}
use Rattle.table_lines.proofs.word.low_decimal.Goals as goal

pub returns : goal.returns
returns c =
    let n = c.args.n in
    let width = c.args.width in
    ap (bit_and n) (shifted_one width c.requires) ∙ and_mask n width ∙ sym (decimal_bits width n)
