-- What is at a place of a list, or isn't there.
use Rattle.std.proofs.Common.{◌≡◌, ◌<◌, ℕ, zero, suc, List, [], ◌∷◌, length, map, get_or, None, refl, ap}
use Rattle.std.proofs.Common.{arith}
use Rattle.std.specs.Prelude.{slice_get}

pub none_at : {A B : Type 0} (f : A → B) (d : B) (xs : List A) (k : ℕ)
    → None ≡ slice_get xs k → d ≡ get_or (map f xs) k d
none_at f d [] k h = refl
none_at f d (y ∷ xs) zero h = absurd cc
none_at f d (y ∷ xs) (suc k) h = none_at f d xs k h
