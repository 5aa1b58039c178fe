-- The bit steps of a merge (IEEE 1687-2014, PDL level 0: iMerge): its calls are branches that advance turn by
-- turn.
use Rattle.std.specs.Prelude.{ℕ, zero, suc, max, Bool, false, not, ◌&&◌, ◌||◌, cond, List, [], ◌∷◌, ◌++◌}
use Rattle.std.specs.Prelude.{length, map, Option, Some, None}
use Rattle.std.specs.List.{list_any}
use Rattle.net_graph.specs.declared.net.BitId.{BitId}
use Rattle.net_graph.specs.Path.{same_place}
use Rattle.net_graph.specs.SeenSteps.{SeenGroup, SeenStep, Apply, Run, Reset}
use Rattle.pdl_targets.specs.Binding.{run_of}
use Rattle.pdl_targets.specs.Rounds.{Places, clash}

-- the bit steps of one call
abbrev pub Branch : Type 0
Branch = List SeenStep

-- ---- what joins

-- a round names a bit
abbrev pub names : SeenGroup → BitId → Bool
names g b = list_any (λ w. same_place b w.bit) g.writes || list_any (λ r. same_place b r.bit) g.reads

-- two rounds name one bit
abbrev pub share_bit : SeenGroup → SeenGroup → Bool
share_bit g h = list_any (λ w. names h w.bit) g.writes || list_any (λ r. names h r.bit) g.reads

-- a register can't be on one path with one that a round names
abbrev pub clashes_with : Places → SeenGroup → ℕ → Bool
clashes_with places g q =
    list_any (λ w. clash places q w.bit.reg) g.writes || list_any (λ r. clash places q r.bit.reg) g.reads

-- two rounds name registers that can't be on one path
abbrev pub part_ways : Places → SeenGroup → SeenGroup → Bool
part_ways places g h = list_any (λ w. clashes_with places h w.bit.reg) g.writes || list_any
    (λ r. clashes_with places h r.bit.reg) g.reads

abbrev pub can_join : Places → SeenGroup → SeenGroup → Bool
can_join places g h = not (share_bit g h) && not (part_ways places g h)

abbrev pub both : SeenGroup → SeenGroup → SeenGroup
both g h = record { writes = g.writes ++ h.writes; reads = g.reads ++ h.reads }

-- ---- one turn

-- the iApplys of a turn, each by its rounds
abbrev pub applies_in : List SeenStep → List (List SeenGroup)
applies_in [] = []
applies_in (Apply rounds ∷ ss) = rounds ∷ applies_in ss
applies_in (Run n ∷ ss) = applies_in ss
applies_in (Reset ∷ ss) = applies_in ss

-- an iApply joins a round where it has one round alone, which can
abbrev pub joins : Places → SeenGroup → List SeenGroup → Bool
joins places g [] = false
joins places g (h ∷ []) = can_join places g h
joins places g (h ∷ i ∷ more) = false

abbrev pub with_first : SeenGroup → List SeenGroup → SeenGroup
with_first g [] = g
with_first g (h ∷ more) = both g h

-- one round with that of each later iApply that joins what is joined so far
abbrev pub joined : Places → SeenGroup → List (List SeenGroup) → SeenGroup
joined places g [] = g
joined places g (a ∷ later) =
    cond (joins places g a) (joined places (with_first g a) later) (joined places g later)

-- the later iApplys that don't join
abbrev pub unjoined : Places → SeenGroup → List (List SeenGroup) → List (List SeenGroup)
unjoined places g [] = []
unjoined places g (a ∷ later) =
    cond (joins places g a) (unjoined places (with_first g a) later) (a ∷ unjoined places g later)

-- the first iApply with those that join it; where it has more rounds than one, none does
abbrev pub first_join : Places → List SeenGroup → List (List SeenGroup) → List SeenGroup
first_join places [] later = []
first_join places (g ∷ []) later = joined places g later ∷ []
first_join places (g ∷ h ∷ more) later = g ∷ h ∷ more

-- the iApplys after that join
abbrev pub after_first : Places → List SeenGroup → List (List SeenGroup) → List (List SeenGroup)
after_first places [] later = later
after_first places (g ∷ []) later = unjoined places g later
after_first places (g ∷ h ∷ more) later = later

-- join after join, until no iApply is left; each takes at least the first
abbrev pub joins_upto : Places → ℕ → List (List SeenGroup) → List (List SeenGroup)
joins_upto places zero applies = []
joins_upto places (suc n) [] = []
joins_upto places (suc n) (a ∷ later) =
    first_join places a later ∷ joins_upto places n (after_first places a later)

abbrev pub all_joins : Places → List (List SeenGroup) → List (List SeenGroup)
all_joins places applies = joins_upto places (length applies) applies

abbrev pub cycles_of : SeenStep → ℕ
cycles_of (Apply rounds) = 0
cycles_of (Run n) = n
cycles_of Reset = 0

-- the most cycles that a branch runs in a turn
abbrev pub longest_run : List SeenStep → ℕ
longest_run [] = 0
longest_run (s ∷ ss) = max (cycles_of s) (longest_run ss)

abbrev pub if_any : Option SeenStep → List SeenStep
if_any None = []
if_any (Some s) = s ∷ []

-- a turn gives its joins, each as one iApply, and then the longest run
abbrev pub turn : Places → List SeenStep → List SeenStep
turn places ss = map Apply (all_joins places (applies_in ss)) ++ if_any (run_of (longest_run ss))

-- ---- all turns

-- the next bit step of each branch that has one
abbrev pub firsts : List Branch → List SeenStep
firsts [] = []
firsts ([] ∷ bs) = firsts bs
firsts ((s ∷ ss) ∷ bs) = s ∷ firsts bs

abbrev pub later : List Branch → List Branch
later [] = []
later ([] ∷ bs) = later bs
later ((s ∷ ss) ∷ bs) = ss ∷ later bs

abbrev pub longest : List Branch → ℕ
longest [] = 0
longest (b ∷ bs) = max (length b) (longest bs)

abbrev pub turns : Places → ℕ → List Branch → List SeenStep
turns places zero branches = []
turns places (suc n) branches = turn places (firsts branches) ++ turns places n (later branches)

-- the bit steps of a merge of these branches
abbrev pub merged : Places → List Branch → List SeenStep
merged places branches = turns places (longest branches) branches
