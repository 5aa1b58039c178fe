-- Changes of single things of a list.
use Rattle.std.proofs.Common.{◌≡◌, ◌<◌, ℕ, zero, suc, List, [], ◌∷◌, ◌++◌, length, take, drop, map, set, refl}
use Rattle.std.proofs.Common.{ap, sym, ◌∙◌, arith}
use Rattle.std.specs.Prelude.{get_or}
use Rattle.design_maker.specs.Procedure.{change_at}
use Rattle.design_maker.specs.declared.instrument.Instrument.{Instrument}

-- one more thing is changed
changed_next : {A : Type 0} (f : A → A) (xs : List A) (i : ℕ) (y : A) → i < length xs
    → y ≡ get_or (map f (take i xs) ++ drop i xs) i y
    → set (map f (take i xs) ++ drop i xs) i (f y) ≡ map f (take (suc i) xs) ++ drop (suc i) xs
changed_next f [] i y within is = absurd (omega (arith, within))
changed_next f (x ∷ xs) zero y within is = ap (λ z. f z ∷ xs) is
changed_next f (x ∷ xs) (suc i) y within is =
    ap (λ l. f x ∷ l) (changed_next f xs i y (omega (arith, within)) is)

pub one_changed : {A : Type 0} (f : A → A) (xs : List A) (i s : ℕ) (y : A) → i < length xs → s ≡ suc i
    → (before : List A) → before ≡ map f (take i xs) ++ drop i xs → y ≡ get_or before i y
    → set before i (f y) ≡ map f (take s xs) ++ drop s xs
one_changed f xs i s y within next before same is =
    ap (λ l. set l i (f y)) same
    ∙ changed_next f xs i y within (is ∙ ap (λ l. get_or l i y) same)
    ∙ ap (λ n. map f (take n xs) ++ drop n xs) (sym next)

-- a thing that is set is changed
pub set_is_change : (f : Instrument → Instrument) (xs : List Instrument) (k : ℕ) (x : Instrument)
    → k < length xs → x ≡ get_or xs k x → set xs k (f x) ≡ change_at k f xs
set_is_change f [] k x within is = absurd (omega (arith, within))
set_is_change f (y ∷ ys) zero x within is = ap (λ z. f z ∷ ys) is
set_is_change f (y ∷ ys) (suc k) x within is =
    ap (λ l. y ∷ l) (set_is_change f ys k x (omega (arith, within)) is)

pub length-change_at : (k : ℕ) (f : Instrument → Instrument) (xs : List Instrument)
    → length (change_at k f xs) ≡ length xs
length-change_at k f [] = refl
length-change_at zero f (x ∷ xs) = refl
length-change_at (suc k) f (x ∷ xs) = ap suc (length-change_at k f xs)
