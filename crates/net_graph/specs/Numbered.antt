-- Bits and registers that are found by marks: the mark of each is its place among some, counted from 1.
use Rattle.std.specs.Prelude.{◌≡◌, ℕ, ◌+◌, ◌<◌, List, length, map, slice_index_or}
use Rattle.net_graph.specs.declared.net.BitId.{BitId}
use Rattle.net_graph.specs.declared.net.Net.{Net}
use Rattle.net_graph.specs.declared.step.WriteBit.{WriteBit}
use Rattle.net_graph.specs.declared.step.ReadBit.{ReadBit}
use Rattle.net_graph.specs.Named.{IsBitOf}
use Rattle.net_graph.specs.Marks.{HasMark, Marks, mark_at}

-- each bit of the network has a mark
abbrev pub HaveMarks : Net → Marks → Type 0
HaveMarks net marks = (b : BitId) → IsBitOf net b → HasMark marks b

-- the mark of each of some bits is its place among them, counted from 1, and each bit of the network has a
-- mark
pub record AreNumbered (net : Net) (marks : Marks) (bits : List BitId) : Type 0 where
  pub places : (i : ℕ) (b : BitId) → i < length bits → mark_at marks (slice_index_or bits i b) ≡ i + 1
  pub there : HaveMarks net marks

abbrev pub bits_written : List WriteBit → List BitId
bits_written ws = map (λ w. w.bit) ws

abbrev pub bits_compared : List ReadBit → List BitId
bits_compared rs = map (λ r. r.bit) rs

-- a register has its mark at its first bit
abbrev pub first_bit : ℕ → BitId
first_bit r = record { reg = r; pos = 0 }

abbrev pub first_bits : List ℕ → List BitId
first_bits rs = map first_bit rs
