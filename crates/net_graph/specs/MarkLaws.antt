-- What changes where a number is set at a bit.
use Rattle.std.specs.Prelude.{◌≡◌, ℕ, false}
use Rattle.net_graph.specs.declared.net.BitId.{BitId}
use Rattle.net_graph.specs.declared.net.Net.{Net}
use Rattle.net_graph.specs.Named.{IsBitOf}
use Rattle.net_graph.specs.Path.{same_place}
use Rattle.net_graph.specs.Marks.{Marks, HasMark, mark_at, set_mark, zero_marks}

-- the bit has the number
abbrev pub SetIsThere : Type 0
SetIsThere = (marks : Marks) (b : BitId) (n : ℕ) → HasMark marks b → mark_at (set_mark marks b n) b ≡ n

-- any other bit keeps its own
abbrev pub OthersStay : Type 0
OthersStay = (marks : Marks) (b c : BitId) (n : ℕ) → same_place c b ≡ false
    → mark_at (set_mark marks b n) c ≡ mark_at marks c

-- and bits that have one still have one
abbrev pub BitsStay : Type 0
BitsStay = (marks : Marks) (b c : BitId) (n : ℕ) → HasMark marks c → HasMark (set_mark marks b n) c

-- each bit of a network has one
abbrev pub EachBitHasOne : Type 0
EachBitHasOne = (net : Net) (b : BitId) → IsBitOf net b → HasMark (zero_marks net) b

-- at first it is 0
abbrev pub ZerosAreZero : Type 0
ZerosAreZero = (net : Net) (b : BitId) → mark_at (zero_marks net) b ≡ 0
