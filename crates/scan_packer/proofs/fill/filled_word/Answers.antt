use Rattle.std.proofs.Common.{sym, ap, ◌∙◌}
use Rattle.std.specs.Prelude.{replicate}
use Rattle.ij_bits.proofs.WordBits.{bits_of-none}
use Rattle.scan_packer.proofs.Filling.{all_ones}
use Rattle.scan_packer.proofs.fill.filled_word.Goals as goal

pub returns-then-value : goal.returns-then-value
returns-then-value c = λ n l. all_ones n l ∙ ap (replicate n) (sym c.if-value.true)

pub returns-else-value : goal.returns-else-value
returns-else-value c = λ n l. bits_of-none n ∙ ap (replicate n) (sym c.if-value.false)
