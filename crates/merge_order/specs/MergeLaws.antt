-- What the branches of a merge keep in it.
use Rattle.std.specs.Prelude.{◌≡◌, ℕ, Bool, List, [], ◌∷◌, ◌++◌, Option, Some, None, All, filter}
use Rattle.net_graph.specs.declared.net.Net.{Net}
use Rattle.net_graph.specs.declared.step.ReadBit.{ReadBit}
use Rattle.net_graph.specs.declared.step.WriteBit.{WriteBit}
use Rattle.instruments.specs.Machine.{Event, Machine, whole_log}
use Rattle.pdl_meaning.specs.Direct.{Direct, do_all}
use Rattle.pdl_expand.specs.Values.{AStep}
use Rattle.pdl_targets.specs.Rounds.{Places}
use Rattle.merge_order.specs.Feeding.{Fails, Fed, Is, Merging, State, feed}
use Rattle.merge_order.specs.Laws.{AreTurns, writes_in, reads_in}
use Rattle.merge_order.specs.Merge.{Branch, merged}
use Rattle.merge_order.specs.Order.{DoBranch}
use Rattle.merge_order.specs.Seeing.{feeds, changes_seen}

-- ---- what a branch can be

-- a merge that is begun, if one is, has iApplys and runs of a clock or more, and no reset
abbrev pub HasTurns : Option Merging → Type 0
HasTurns None = Unit {0}
HasTurns (Some m) = All AreTurns m.branches × AreTurns m.next

-- what holds of the state after a step
abbrev pub OfFed : (State → Type 0) → Fed → Type 0
OfFed P (Is next ready) = P next
OfFed P (Fails fault) = Unit {0}

-- so it stays, whatever step is taken in; at the begin no merge is begun
abbrev pub MergesHaveTurns : Type 0
MergesHaveTurns = (net : Net) (places : Places) (s : State) (step : AStep) → HasTurns s.merging
    → OfFed (λ t. HasTurns t.merging) (feed net places s step)

-- ---- order

-- A merge does each of its branches: the branch's writes and reads stand in it in the branch's order, and
-- between two of its bit steps stand at least the run cycles that it asks for there.
abbrev pub MergesDoEachBranch : Type 0
MergesDoEachBranch = (places : Places) (branches : List Branch)
    → All (λ b. AreTurns b → DoBranch (merged places branches) b) branches

-- no branch has a write that passes a test
abbrev pub NoneWrites : (WriteBit → Bool) → List Branch → Type 0
NoneWrites test branches = All (λ c. filter test (writes_in c) ≡ []) branches

abbrev pub NoneReads : (ReadBit → Bool) → List Branch → Type 0
NoneReads test branches = All (λ c. filter test (reads_in c) ≡ []) branches

-- What one branch alone writes, such as a bit that no other names, is written in the merge as often, in the
-- same order and with the same values.
abbrev pub WritesOfOneStay : Type 0
WritesOfOneStay = (places : Places) (before : List Branch) (b : Branch)
    (following : List Branch) (test : WriteBit → Bool) → AreTurns b
    → NoneWrites test before → NoneWrites test following
    → filter test (writes_in (merged places (before ++ b ∷ following))) ≡ filter test (writes_in b)

-- and what one branch alone reads is read so
abbrev pub ReadsOfOneStay : Type 0
ReadsOfOneStay = (places : Places) (before : List Branch) (b : Branch)
    (following : List Branch) (test : ReadBit → Bool) → AreTurns b
    → NoneReads test before → NoneReads test following
    → filter test (reads_in (merged places (before ++ b ∷ following))) ≡ filter test (reads_in b)

-- ---- instruments

-- Where no other branch writes a bit that feeds an instrument's inputs, its change events are, in order and
-- with the numbers at its inputs, those of this branch alone, from whatever state the merge begins in.
abbrev pub InstrumentsSeeTheirBranch : Type 0
InstrumentsSeeTheirBranch = (net : Net) (machines : List Machine) (d : Direct (List Event)) (places : Places)
    (before : List Branch) (b : Branch) (following : List Branch) (i : ℕ) → AreTurns b
    → NoneWrites (λ w. feeds net i w.bit) before → NoneWrites (λ w. feeds net i w.bit) following
    → changes_seen (do_all whole_log net machines d (merged places (before ++ b ∷ following))) i
    ≡ changes_seen (do_all whole_log net machines d b) i
