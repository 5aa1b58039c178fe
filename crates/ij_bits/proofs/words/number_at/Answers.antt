use Rattle.std.proofs.Common.{◌^◌, ◌∙◌, ap, arith}
use Rattle.std.specs.Prelude.{◌==◌}
use Rattle.std.specs.Int.{bit_at}
use Rattle.std.proofs.lemmas.Nat.{pow_pos, mod_below}
use Rattle.ij_bits.proofs.Joining.{low_bit, lowest}
use Rattle.ij_bits.proofs.words.number_at.Goals as goal

pub returns-clause-bits : goal.returns-clause-bits
returns-clause-bits c k low =
    ap (λ y. bit_at y k == 1) (lowest c.word_at.result c.args.n c.requires.few)
    ∙ ap (λ y. y == 1) (low_bit c.word_at.result c.args.n k low)
    ∙ c.word_at.ensures k (omega arith) (omega arith)

pub returns-clause-small : goal.returns-clause-small
returns-clause-small c = omega (
  arith,
  lowest c.word_at.result c.args.n c.requires.few,
  mod_below c.word_at.result (2 ^ c.args.n) (pow_pos c.args.n),
)
