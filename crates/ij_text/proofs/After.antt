-- Places after some bytes and then others.
use Rattle.std.proofs.Common.{◌≡◌, ℕ, List, [], ◌∷◌, ◌++◌, refl}
use Rattle.ij_text.specs.declared.Place.{Place}
use Rattle.ij_text.specs.Places.{next_place, place_after}

pub place_after-append : (xs : List ℕ) (at : Place) (ys : List ℕ)
    → place_after at (xs ++ ys) ≡ place_after (place_after at xs) ys
place_after-append [] at ys = refl
place_after-append (x ∷ xs) at ys = place_after-append xs (next_place at x) ys
