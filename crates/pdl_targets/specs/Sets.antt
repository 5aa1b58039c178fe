-- Sets of rounds, in words: bit k of word w says whether round 64 * w + k is in.
use Rattle.std.specs.Prelude.{ℕ, ◌==◌, ◌/◌, ◌%◌, Bool, cond, List, [], slice_index_or}
use Rattle.std.specs.Int.{bit_at}

-- a round is among words
abbrev pub is_in_words : List ℕ → ℕ → Bool
is_in_words words k = bit_at (slice_index_or words (k / 64) 0) (k % 64) == 1

-- a set counts where its stamp is that of the table, so that a new stamp empties all sets
pub record StampedSet : Type 0 where
  pub stamp : ℕ
  pub words : List ℕ

abbrev pub no_set : StampedSet
no_set = record { stamp = 0; words = [] }

-- 64 rounds of a set
abbrev pub word_of : ℕ → StampedSet → ℕ → ℕ
word_of stamp set w = cond (set.stamp == stamp) (slice_index_or set.words w 0) 0

-- a round is in a set
abbrev pub has_round : ℕ → StampedSet → ℕ → Bool
has_round stamp set k = bit_at (word_of stamp set (k / 64)) (k % 64) == 1
