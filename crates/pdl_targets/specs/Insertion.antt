-- Rounds that are made in one pass: each register goes into the first round that it can join.
use Rattle.std.specs.Prelude.{◌≡◌, ℕ, zero, suc, Bool, cond, List, [], ◌∷◌, ◌++◌, get_or, flat_map}
use Rattle.std.specs.List.{list_any}
use Rattle.net_graph.specs.declared.branch.Branch.{Branch}
use Rattle.pdl_targets.specs.Rounds.{Places, clashes, exclude}

-- a register goes into the first round with none of whose registers it clashes, or into a round of its own
-- after
abbrev pub put_in : Places → List (List ℕ) → ℕ → List (List ℕ)
put_in places [] r = (r ∷ []) ∷ []
put_in places (q ∷ rss) r = cond (clashes places q r) (q ∷ put_in places rss r) ((q ++ r ∷ []) ∷ rss)

-- registers, one after the other
abbrev pub put_all : Places → List (List ℕ) → List ℕ → List (List ℕ)
put_all places rss [] = rss
put_all places rss (r ∷ rs) = put_all places (put_in places rss r) rs

-- a register goes into this round, or after the last
abbrev pub put_at : List (List ℕ) → ℕ → ℕ → List (List ℕ)
put_at [] k r = (r ∷ []) ∷ []
put_at (q ∷ rss) zero r = (q ++ r ∷ []) ∷ rss
put_at (q ∷ rss) (suc k) r = q ∷ put_at rss k r

-- these rows are excluded by those around the registers of each round
abbrev pub AreExcluded : Places → List (List ℕ) → (Branch → ℕ → Bool) → Type 0
AreExcluded places rss excluded = (b : Branch) (k : ℕ)
    → excluded b k ≡ list_any (λ a. exclude a b) (flat_map places (get_or rss k []))
