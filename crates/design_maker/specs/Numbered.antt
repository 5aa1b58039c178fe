-- Pieces that are made of the things of a list and their numbers.
use Rattle.std.specs.Prelude.{ℕ, suc, List, [], ◌∷◌, ◌++◌}

-- one after the other, the first of which has number i
abbrev pub numbered : {A B : Type 0} → (ℕ → A → List B) → ℕ → List A → List B
numbered f i [] = []
numbered f i (x ∷ xs) = f i x ++ numbered f (suc i) xs
