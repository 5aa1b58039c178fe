use Rattle.std.proofs.Common.{◌≡◌, ◌<◌, ◌+◌, ◌*◌, ◌==◌, ℕ, take}
use Rattle.std.specs.Int.{bit_at}
use Rattle.std.specs.List.{list_any}
use Rattle.merge_order.specs.Tables.{has_bit}
use Rattle.merge_order.proofs.bit_sets.BitSets.read_word.Given as goal

abbrev pub invariant-loop-read : goal.invariant-loop-read
invariant-loop-read l = (j : ℕ) → j < 64
    → (bit_at l.word j == 1) ≡ list_any (λ a. has_bit l.self a.bit (64 * l.w + j)) (take l.read-index l.reads)
