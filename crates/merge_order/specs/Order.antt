-- What a branch of a merge finds of itself there (IEEE 1687-2014, PDL level 0: iMerge).
use Rattle.std.specs.Prelude.{◌≡◌, ◌≤◌, ◌⊎◌, List, [], ◌∷◌}
use Rattle.net_graph.specs.SeenSteps.{SeenGroup, SeenStep, Apply, Run, Reset}
use Rattle.merge_order.specs.Merge.{Branch}

-- the elements of a list stand in another, one after the other
abbrev pub StandIn : {X : Type 0} → List X → List X → Type 0
StandIn [] ys = Unit {0}
StandIn (x ∷ xs) [] = ⊥
StandIn (x ∷ xs) (y ∷ ys) = ((x ≡ y) × StandIn xs ys) ⊎ StandIn (x ∷ xs) ys

-- a round does what another does, and perhaps more
abbrev pub DoesRound : SeenGroup → SeenGroup → Type 0
DoesRound h g = StandIn g.writes h.writes × StandIn g.reads h.reads

-- this many rounds, each does what the other does
abbrev pub DoRounds : List SeenGroup → List SeenGroup → Type 0
DoRounds [] [] = Unit {0}
DoRounds [] (g ∷ gs) = ⊥
DoRounds (h ∷ hs) [] = ⊥
DoRounds (h ∷ hs) (g ∷ gs) = DoesRound h g × DoRounds hs gs

-- a bit step does what another does: an iApply does its writes and reads, round by round, a run takes at
-- least its clocks
abbrev pub Does : SeenStep → SeenStep → Type 0
Does (Apply hs) (Apply gs) = DoRounds hs gs
Does (Apply hs) (Run n) = ⊥
Does (Apply hs) Reset = ⊥
Does (Run m) (Apply gs) = ⊥
Does (Run m) (Run n) = n ≤ m
Does (Run m) Reset = ⊥
Does Reset s = ⊥

-- bit steps do those of a branch, each by one of its own, one after the other
abbrev pub DoBranch : List SeenStep → Branch → Type 0
DoBranch ms [] = Unit {0}
DoBranch [] (s ∷ ss) = ⊥
DoBranch (m ∷ ms) (s ∷ ss) = (Does m s × DoBranch ms ss) ⊎ DoBranch ms (s ∷ ss)
