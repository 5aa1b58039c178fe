-- How a text is cut into parts.
use Rattle.std.specs.Prelude.{ℕ, ◌==◌, Bool, true, false, cond, List, [], ◌∷◌}

-- a byte before a list of texts belongs to the first of them
abbrev pub before : ℕ → List (List ℕ) → List (List ℕ)
before b [] = (b ∷ []) ∷ []
before b (t ∷ ts) = (b ∷ t) ∷ ts

-- the texts between the bytes of one kind: one more than there are such bytes
abbrev pub split : ℕ → List ℕ → List (List ℕ)
split at [] = [] ∷ []
split at (b ∷ bs) = cond (b == at) ([] ∷ split at bs) (before b (split at bs))

-- a byte before some words: a part of the first one, if this begins right after it
abbrev pub longer : Bool → ℕ → List (List ℕ) → List (List ℕ)
longer false b ws = (b ∷ []) ∷ ws
longer true b [] = (b ∷ []) ∷ []
longer true b (w ∷ ws) = (b ∷ w) ∷ ws
