-- The joins of a turn, one iApply after the other: each goes into the first join that can take it.
use Rattle.std.specs.Prelude.{ℕ, zero, suc, Bool, false, true, not, ◌&&◌, cond, List, [], ◌∷◌, ◌++◌}
use Rattle.std.specs.Prelude.{slice_index_or}
use Rattle.net_graph.specs.SeenSteps.{SeenGroup}
use Rattle.pdl_targets.specs.Rounds.{Places}
use Rattle.merge_order.specs.Merge.{both, can_join}

-- no bit
abbrev pub no_group : SeenGroup
no_group = record { writes = []; reads = [] }

-- nothing joins a join of no round, or of more than one
abbrev pub is_closed : List SeenGroup → Bool
is_closed [] = true
is_closed (g ∷ []) = false
is_closed (g ∷ h ∷ more) = true

-- the round that others may join
abbrev pub open_round : List SeenGroup → SeenGroup
open_round [] = no_group
open_round (g ∷ []) = g
open_round (g ∷ h ∷ more) = no_group

-- a join can take a round
abbrev pub takes : Places → List SeenGroup → SeenGroup → Bool
takes places join h = not (is_closed join) && can_join places (open_round join) h

-- an open join whose round does this one too; of a closed one its rounds would be lost
abbrev pub with_round : List SeenGroup → SeenGroup → List SeenGroup
with_round join h = both (open_round join) h ∷ []

-- a round goes into the first join that can take it, or is one after
abbrev pub put_round : Places → SeenGroup → List (List SeenGroup) → List (List SeenGroup)
put_round places h [] = (h ∷ []) ∷ []
put_round places h (join ∷ joins) =
    cond (takes places join h) (with_round join h ∷ joins) (join ∷ put_round places h joins)

-- an iApply of one round goes where its round goes, and any other is a join after
abbrev pub put_apply : Places → List (List SeenGroup) → List SeenGroup → List (List SeenGroup)
put_apply places joins [] = joins ++ [] ∷ []
put_apply places joins (h ∷ []) = put_round places h joins
put_apply places joins (h ∷ i ∷ more) = joins ++ (h ∷ i ∷ more) ∷ []

-- one iApply after the other
abbrev pub put_all : Places → List (List SeenGroup) → List (List SeenGroup) → List (List SeenGroup)
put_all places joins [] = joins
put_all places joins (a ∷ applies) = put_all places (put_apply places joins a) applies

-- ---- by number

-- the join of this number: beyond the last it is open, and has no bit
abbrev pub join_at : List (List SeenGroup) → ℕ → List SeenGroup
join_at joins k = slice_index_or joins k (no_group ∷ [])

-- a round goes into the join of this number, or is one after
abbrev pub put_at : ℕ → SeenGroup → List (List SeenGroup) → List (List SeenGroup)
put_at k h [] = (h ∷ []) ∷ []
put_at zero h (join ∷ joins) = with_round join h ∷ joins
put_at (suc k) h (join ∷ joins) = join ∷ put_at k h joins
