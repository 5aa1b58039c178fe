-- Compares that differ, of two parts of a play, and what is expected after a first bit.
use Rattle.std.proofs.Common.{◌≡◌, ℕ, suc, Bool, true, false, cond, List, [], ◌∷◌, ◌++◌, drop, get_or, Option}
use Rattle.std.proofs.Common.{None, refl, ap, ◌∙◌}
use Rattle.ij_bits.specs.BitLists.{same_bit}
use Rattle.net_bench.specs.Playing.{Compare, differing}

cond_both : (k : Bool) (c : Compare) (xs ys : List Compare)
    → cond k (xs ++ ys) (c ∷ (xs ++ ys)) ≡ cond k xs (c ∷ xs) ++ ys
cond_both true c xs ys = refl
cond_both false c xs ys = refl

pub differing_both : (xs ys : List Compare) → differing (xs ++ ys) ≡ differing xs ++ differing ys
differing_both [] ys = refl
differing_both (x ∷ xs) ys =
    ap (λ l. cond (same_bit x.expect x.found) l (x ∷ l)) (differing_both xs ys)
    ∙ cond_both (same_bit x.expect x.found) x (differing xs) (differing ys)

pub get_after : (es : List (Option Bool)) (i : ℕ) → get_or (drop 1 es) i None ≡ get_or es (suc i) None
get_after [] i = refl
get_after (x ∷ es) i = refl
