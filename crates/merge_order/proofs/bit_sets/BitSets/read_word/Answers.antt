use Rattle.std.proofs.Common.{◌+◌, ◌*◌, ◌==◌, ap}
use Rattle.std.specs.Int.{bit_at}
use Rattle.std.proofs.lemmas.Nat.Bits.{bit_at-zero}
use Rattle.merge_order.specs.Tables.{has_bit}
use Rattle.ij_bits.proofs.Lists.{any_word}
use Rattle.merge_order.proofs.bit_sets.BitSets.read_word.Goals as goal

pub loop-read-init : goal.loop-read-init
loop-read-init c = λ j low. ap (λ b. b == 1) (bit_at-zero j)

pub loop-read-preserved : goal.loop-read-preserved
loop-read-preserved c = λ j low.
    any_word (λ a. has_bit c.args.self.now a.bit (64 * c.args.w + j)) c.args.reads.now
    c.loop-read.read-index _ (bit_at c.loop-read.word j == 1) _ _
    c.loop-read-test.true (c.loop-read.invariant j low) (c.bit_word.ensures j low)
    (c.bits_of_either-word.ensures j)
