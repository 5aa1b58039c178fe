use Rattle.std.proofs.Common.{◌∙◌, sym}
use Rattle.table_lines.proofs.Lows.{shifted_one, known_bits}
use Rattle.table_lines.proofs.word.all_known.Goals as goal

pub returns : goal.returns
returns c = shifted_one c.args.width c.requires ∙ sym (known_bits c.args.width c.args.n)
