-- A cell that isn't there.
use Rattle.std.proofs.Common.{◌≡◌, ℕ, zero, suc, true, List, [], ◌∷◌, None, refl}
use Rattle.std.specs.Prelude.{slice_get}
use Rattle.icl_references.specs.Roles.{CellOf}
use Rattle.icl_signals.specs.Moves.{is_top}

pub none_is_top : (cells : List CellOf) (k : ℕ) → None ≡ slice_get cells k → true ≡ is_top cells k
none_is_top [] k h = refl
none_is_top (c ∷ cells) zero h = absurd cc
none_is_top (c ∷ cells) (suc k) h = none_is_top cells k h
