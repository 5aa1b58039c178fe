-- What is known of a text that is cut into parts.
use Rattle.std.proofs.Common.{◌≡◌, ℕ, false, cond, List, [], ◌∷◌, ◌++◌, refl, ap, ◌∙◌}
use Rattle.std.specs.Prelude.{◌==◌}
use Rattle.std.specs.List.{AllByRecursion}
use Rattle.ij_bits.proofs.Tests.{number_self}
use Rattle.ij_text.specs.Parts.{before, split}

-- a text without the byte that parts end with
abbrev pub Without : ℕ → List ℕ → Type 0
Without at bytes = AllByRecursion (λ b. (b == at) ≡ false) bytes

pub split_off : (at : ℕ) (xs ys : List ℕ) → Without at xs → split at (xs ++ at ∷ ys) ≡ xs ∷ split at ys
split_off at [] ys free = ap (λ k. cond k ([] ∷ split at ys) (before at (split at ys))) (number_self at)
split_off at (x ∷ xs) ys free =
    ap (λ k. cond k ([] ∷ split at (xs ++ at ∷ ys)) (before x (split at (xs ++ at ∷ ys)))) free.0
    ∙ ap (before x) (split_off at xs ys free.1)

pub split_none : (at : ℕ) (xs : List ℕ) → Without at xs → split at xs ≡ xs ∷ []
split_none at [] free = refl
split_none at (x ∷ xs) free =
    ap (λ k. cond k ([] ∷ split at xs) (before x (split at xs))) free.0
    ∙ ap (before x) (split_none at xs free.1)
