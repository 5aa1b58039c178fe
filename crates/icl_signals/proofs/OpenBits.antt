-- Bits that are all open.
use Rattle.std.proofs.Common.{◌≡◌, ℕ, zero, suc, false, List, ◌∷◌, Option, None, Bool, refl, ap}
use Rattle.std.specs.Prelude.{replicate}
use Rattle.ij_text.specs.Numbers.{open_bits}

pub all_open : (n : ℕ) → open_bits (replicate n false) (replicate n false) ≡ replicate n None
all_open zero = refl
all_open (suc n) = ap (λ (l : List (Option Bool)). None ∷ l) (all_open n)
