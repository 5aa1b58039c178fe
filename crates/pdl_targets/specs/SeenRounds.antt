-- Rounds and groups that were made, and the round of a register.
use Rattle.std.specs.Prelude.{◌≡◌, ◌<◌, ◌≤◌, ◌++◌, ℕ, zero, suc, Bool, true, false, List, [], ◌∷◌, get_or}
use Rattle.std.specs.Prelude.{length, map, Option, Some, None}
use Rattle.std.specs.List.{list_any}
use Rattle.ij_bits.specs.Room.{Listed}
use Rattle.net_graph.specs.declared.step.Group.{Group}
use Rattle.net_graph.specs.declared.step.ReadBit.{ReadBit}
use Rattle.net_graph.specs.declared.step.WriteBit.{WriteBit}
use Rattle.net_graph.specs.SeenSteps.{SeenGroup, seen_group}
use Rattle.net_graph.specs.Path.{is_in}
use Rattle.pdl_targets.specs.Laws.{times_in_all}
use Rattle.pdl_targets.specs.Rounds.{part_on}

abbrev pub seen_rounds : List (Listed ℕ) → List (List ℕ)
seen_rounds rounds = map (λ registers. registers.items) rounds

abbrev pub seen_groups : List Group → List SeenGroup
seen_groups groups = map seen_group groups

-- each register is in one round at most, and once there
abbrev pub AreOnceInAll : List (List ℕ) → Type 0
AreOnceInAll rounds = (r : ℕ) → times_in_all rounds r ≤ 1

abbrev pub is_in_any : List (List ℕ) → ℕ → Bool
is_in_any rounds r = list_any (λ rs. is_in rs r) rounds

-- a round that a register is in, if it is in any
abbrev pub IsRoundOf : List (List ℕ) → ℕ → Option ℕ → Type 0
IsRoundOf rounds r None = is_in_any rounds r ≡ false
IsRoundOf rounds r (Some k) = (k < length rounds) × (is_in (get_or rounds k []) r ≡ true)

-- groups of these writes and reads, one for each round
abbrev pub AreGroups : List (List ℕ) → List WriteBit → List ReadBit → List Group → Type 0
AreGroups rounds writes reads groups = seen_groups groups ≡ map (part_on writes reads) rounds

-- groups with one write more in one of them
abbrev pub with_write : List SeenGroup → ℕ → WriteBit → List SeenGroup
with_write [] k w = []
with_write (g ∷ gs) zero w = record g { writes = g.writes ++ w ∷ [] } ∷ gs
with_write (g ∷ gs) (suc k) w = g ∷ with_write gs k w

-- and with one read more
abbrev pub with_read : List SeenGroup → ℕ → ReadBit → List SeenGroup
with_read [] k r = []
with_read (g ∷ gs) zero r = record g { reads = g.reads ++ r ∷ [] } ∷ gs
with_read (g ∷ gs) (suc k) r = g ∷ with_read gs k r

-- groups of one write more, and of one read more
abbrev pub TakesWrite : List (List ℕ) → WriteBit → List Group → List Group → Type 0
TakesWrite rounds w old new = (writes : List WriteBit) (reads : List ReadBit)
    → AreGroups rounds writes reads old → AreGroups rounds (writes ++ w ∷ []) reads new

abbrev pub TakesRead : List (List ℕ) → ReadBit → List Group → List Group → Type 0
TakesRead rounds r old new = (writes : List WriteBit) (reads : List ReadBit)
    → AreGroups rounds writes reads old → AreGroups rounds writes (reads ++ r ∷ []) new
