use Rattle.tap_machine.proofs.Pieces.{ones}
use Rattle.std.proofs.Common.{refl, sym, ap, ◌∙◌}
use Rattle.std.specs.Prelude.{replicate}
use Rattle.tap_machine.proofs.progress.same_bits.Goals as goal
use Rattle.ij_bits.proofs.WordBits.{bits_of-none}

pub returns-then-value : goal.returns-then-value
returns-then-value c = ones c.args.n _ c.requires.few refl ∙ ap (replicate c.args.n) (sym c.if-value.true)

pub returns-else-value : goal.returns-else-value
returns-else-value c = bits_of-none c.args.n ∙ ap (replicate c.args.n) (sym c.if-value.false)
