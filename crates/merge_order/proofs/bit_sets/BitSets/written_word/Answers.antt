use Rattle.std.proofs.Common.{◌+◌, ◌*◌, ◌==◌, ap}
use Rattle.std.specs.Int.{bit_at}
use Rattle.std.proofs.lemmas.Nat.Bits.{bit_at-zero}
use Rattle.merge_order.specs.Tables.{has_bit}
use Rattle.ij_bits.proofs.Lists.{any_word}
use Rattle.merge_order.proofs.bit_sets.BitSets.written_word.Goals as goal

pub loop-write-init : goal.loop-write-init
loop-write-init c = λ j low. ap (λ b. b == 1) (bit_at-zero j)

pub loop-write-preserved : goal.loop-write-preserved
loop-write-preserved c = λ j low.
    any_word (λ a. has_bit c.args.self.now a.bit (64 * c.args.w + j)) c.args.writes.now
    c.loop-write.write-index _ (bit_at c.loop-write.word j == 1) _ _
    c.loop-write-test.true (c.loop-write.invariant j low) (c.bit_word.ensures j low)
    (c.bits_of_either-word.ensures j)
