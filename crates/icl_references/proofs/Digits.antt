-- The digits of numbers, one after another.
use Rattle.std.proofs.Common.{◌≡◌, ◌+◌, ◌<◌, ◌≤◌, ℕ, zero, suc, Bool, true, false, List, [], ◌∷◌, ◌++◌}
use Rattle.std.proofs.Common.{length, map, min, get_or, take, drop, Option, Some, refl, ◌∙◌, arith}
use Rattle.std.specs.Prelude.{◌&&◌}
use Rattle.icl_declarations.specs.Values.{OpenBits}
use Rattle.icl_frames.proofs.Passing.{taken_more}
use Rattle.icl_references.specs.Muxes.{meet, meet_at}
use Rattle.std.proofs.lemmas.List.{get_or_default}

-- one more was taken
pub mapped_more : {A B : Type 0} (f : A → B) (xs : List A) (k : ℕ) (x d : A) → k < length xs
    → x ≡ get_or xs k d → map f (take (k + 1) xs) ≡ map f (take k xs) ++ f x ∷ []
mapped_more f xs k x d lt e = taken_more f xs k x lt (e ∙ get_or_default xs k d x lt)

-- ---- two values, digit by digit

pub next_digits : (as' bs : OpenBits) (k : ℕ) (a b : Option Bool) → k < length as' → k < length bs
    → a ≡ get_or as' k (Some false) → b ≡ get_or bs k (Some false)
    → meet (drop k as') (drop k bs) ≡ (meet_at a b && meet (drop (k + 1) as') (drop (k + 1) bs))
next_digits [] bs k a b lt gt e f = absurd (omega (arith, lt))
next_digits (x ∷ as') [] k a b lt gt e f = absurd (omega (arith, gt))
next_digits (x ∷ as') (y ∷ bs) zero a b lt gt e f = rw (e, f) refl
next_digits (x ∷ as') (y ∷ bs) (suc k) a b lt gt e f =
    let n : suc k + 1 ≡ suc (k + 1) = omega arith in
    rw n (next_digits as' bs k a b (omega (arith, lt)) (omega (arith, gt)) e f)

no_digit : (as' : OpenBits) → meet as' [] ≡ true
no_digit [] = refl
no_digit (a ∷ as') = refl

pub last_digits : (as' bs : OpenBits) (k : ℕ)
    → min (length as') (length bs) ≤ k → meet (drop k as') (drop k bs) ≡ true
last_digits [] bs zero le = refl
last_digits [] bs (suc k) le = refl
last_digits (a ∷ as') [] zero le = refl
last_digits (a ∷ as') [] (suc k) le = no_digit (drop k as')
last_digits (a ∷ as') (b ∷ bs) zero le = absurd (omega (arith, le))
last_digits (a ∷ as') (b ∷ bs) (suc k) le = last_digits as' bs k (omega (arith, le))
