-- Reads with a mark at each bit that is read: the place of its read, counted from 1.
use Rattle.std.specs.Prelude.{◌≡◌, ◌≤◌, ℕ, zero, suc, List, [], filter, take, drop, length}
use Rattle.net_graph.specs.Marks.{Marks, mark_at}
use Rattle.net_graph.specs.Path.{same_place}
use Rattle.net_graph.specs.declared.net.BitId.{BitId}
use Rattle.net_graph.specs.declared.step.ReadBit.{ReadBit}

-- the read of a mark, none at 0
abbrev pub marked : List ReadBit → ℕ → List ReadBit
marked reads zero = []
marked reads (suc k) = take 1 (drop k reads)

-- a bit's mark leads to its reads
pub record IsMarked (reads : List ReadBit) (b : BitId) (mark : ℕ) : Type 0 where
  pub within : mark ≤ length reads
  pub there : filter (λ r. same_place b r.bit) reads ≡ marked reads mark

abbrev pub AreMarked : List ReadBit → Marks → Type 0
AreMarked reads marks = (b : BitId) → IsMarked reads b (mark_at marks b)

-- no bit is marked
abbrev pub AreBlank : Marks → Type 0
AreBlank marks = (b : BitId) → mark_at marks b ≡ 0
