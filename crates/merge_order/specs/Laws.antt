-- What follows for merges.
use Rattle.std.specs.Prelude.{◌≡◌, ◌≤◌, ◌+◌, ℕ, Bool, List, [], ◌∷◌, ◌++◌, filter, flat_map, length, Some}
use Rattle.std.specs.Prelude.{All}
use Rattle.net_graph.specs.declared.net.Net.{Net}
use Rattle.net_graph.specs.declared.step.ReadBit.{ReadBit}
use Rattle.net_graph.specs.declared.step.WriteBit.{WriteBit}
use Rattle.net_graph.specs.Nets.{IsNet}
use Rattle.net_graph.specs.SeenSteps.{SeenStep, Apply, Run, Reset}
use Rattle.net_graph.specs.Steps.{IsStep}
use Rattle.pdl_expand.specs.Values.{AnAction, Writes, Reads, Applies, Runs, Resets, BeginsMerge, EndsBranch}
use Rattle.pdl_expand.specs.Values.{EndsMerge, AStep}
use Rattle.pdl_targets.specs.Binding.{bound}
use Rattle.pdl_targets.specs.Laws.{HasPaths, cycles_in, cycles_of, rounds_in, rounds_of}
use Rattle.pdl_targets.specs.Rounds.{Places}
use Rattle.merge_order.specs.AllSteps.{fed}
use Rattle.merge_order.specs.Feeding.{begin}
use Rattle.merge_order.specs.Merge.{Branch, merged}

-- bit steps that a branch can have: no reset is in one, and a run of no clock is no bit step
abbrev pub IsTurn : SeenStep → Type 0
IsTurn (Apply rounds) = Unit {0}
IsTurn (Run n) = 1 ≤ n
IsTurn Reset = ⊥

abbrev pub AreTurns : Branch → Type 0
AreTurns [] = Unit {0}
AreTurns (s ∷ ss) = IsTurn s × AreTurns ss

-- a merge of one branch does what the branch does
abbrev pub OneBranchStays : Type 0
OneBranchStays = (places : Places) (branch : Branch) → AreTurns branch → merged places (branch ∷ []) ≡ branch

-- a merge of no branch does nothing
abbrev pub NoBranchDoesNothing : Type 0
NoBranchDoesNothing = (places : Places) → merged places [] ≡ []

-- ---- a merge in its network

-- the bit steps of a merge are of the network where those of its branches are
abbrev pub MergedStepsAreOfTheNetwork : Type 0
MergedStepsAreOfTheNetwork = (net : Net) (places : Places) (branches : List Branch)
    → All (All (IsStep net)) branches → All (IsStep net) (merged places branches)

-- and their registers can be on one path where those of its branches can
abbrev pub MergedStepsHavePaths : Type 0
MergedStepsHavePaths = (places : Places) (branches : List Branch) → All (All (HasPaths places)) branches
    → All (HasPaths places) (merged places branches)

-- ---- a merge asks for no more than its branches together

-- a number of each branch, added up
abbrev pub in_all : (Branch → ℕ) → List Branch → ℕ
in_all count [] = 0
in_all count (b ∷ bs) = count b + in_all count bs

abbrev pub MergedStepsAreFew : Type 0
MergedStepsAreFew = (places : Places) (branches : List Branch)
    → length (merged places branches) ≤ in_all (λ b. length b) branches

abbrev pub MergedRoundsAreFew : Type 0
MergedRoundsAreFew = (places : Places) (branches : List Branch)
    → rounds_in (merged places branches) ≤ in_all rounds_in branches

abbrev pub MergedCyclesAreFew : Type 0
MergedCyclesAreFew = (places : Places) (branches : List Branch)
    → cycles_in (merged places branches) ≤ in_all cycles_in branches

-- no run is longer than the longest of a branch
abbrev pub MergedRunsAreShort : Type 0
MergedRunsAreShort = (places : Places) (branches : List Branch) (n : ℕ)
    → All (All (λ s. cycles_of (Some s) ≤ n)) branches
    → All (λ s. cycles_of (Some s) ≤ n) (merged places branches)

-- ---- a merge does what its branches do

-- what bit steps write, and what they read
abbrev pub writes_in : List SeenStep → List WriteBit
writes_in [] = []
writes_in (s ∷ ss) = flat_map (λ g. g.writes) (rounds_of (Some s)) ++ writes_in ss

abbrev pub reads_in : List SeenStep → List ReadBit
reads_in [] = []
reads_in (s ∷ ss) = flat_map (λ g. g.reads) (rounds_of (Some s)) ++ reads_in ss

-- a merge has each write of its branches, as often as they have it together, by whatever test one tells them
-- apart
abbrev pub MergesHaveEachWrite : Type 0
MergesHaveEachWrite = (places : Places) (branches : List Branch) (test : WriteBit → Bool)
    → length (filter test (writes_in (merged places branches)))
    ≡ in_all (λ b. length (filter test (writes_in b))) branches

-- and each read
abbrev pub MergesHaveEachRead : Type 0
MergesHaveEachRead = (places : Places) (branches : List Branch) (test : ReadBit → Bool)
    → length (filter test (reads_in (merged places branches)))
    ≡ in_all (λ b. length (filter test (reads_in b))) branches

-- ---- all steps of a procedure

-- what becomes ready is of the network, where this is well formed
abbrev pub FedStepsAreOfTheNetwork : Type 0
FedStepsAreOfTheNetwork = (net : Net) (places : Places) (steps : List AStep) → IsNet net
    → All (IsStep net) (fed net places begin steps)

-- each round of an iApply names something, and its registers can be on one path
abbrev pub FedStepsHavePaths : Type 0
FedStepsHavePaths = (net : Net) (places : Places) (steps : List AStep)
    → All (HasPaths places) (fed net places begin steps)

-- at most as many bit steps become ready as there are steps
abbrev pub FedStepsAreFew : Type 0
FedStepsAreFew = (net : Net) (places : Places) (steps : List AStep)
    → length (fed net places begin steps) ≤ length steps

-- with at most 4096 rounds
abbrev pub FedRoundsAreFew : Type 0
FedRoundsAreFew = (net : Net) (places : Places) (steps : List AStep)
    → rounds_in (fed net places begin steps) ≤ 4096

-- and at most 4,000,000 run cycles, at most 1,000,000 of them in one run
abbrev pub FedCyclesAreFew : Type 0
FedCyclesAreFew = (net : Net) (places : Places) (steps : List AStep)
    → cycles_in (fed net places begin steps) ≤ 4000000

abbrev pub FedRunsAreShort : Type 0
FedRunsAreShort = (net : Net) (places : Places) (steps : List AStep)
    → All (λ s. cycles_of (Some s) ≤ 1000000) (fed net places begin steps)

-- ---- a procedure without merges

abbrev pub IsNoMark : AnAction → Type 0
IsNoMark (Writes target value) = Unit {0}
IsNoMark (Reads target value) = Unit {0}
IsNoMark Applies = Unit {0}
IsNoMark (Runs value) = Unit {0}
IsNoMark Resets = Unit {0}
IsNoMark BeginsMerge = ⊥
IsNoMark EndsBranch = ⊥
IsNoMark EndsMerge = ⊥

abbrev pub HaveNoMerge : List AStep → Type 0
HaveNoMerge [] = Unit {0}
HaveNoMerge (s ∷ ss) = IsNoMark s.what × HaveNoMerge ss

-- what becomes ready is what binding gives
abbrev pub OthersAreBound : Type 0
OthersAreBound = (net : Net) (places : Places) (steps : List AStep) → HaveNoMerge steps
    → fed net places begin steps ≡ (bound net places steps).steps
