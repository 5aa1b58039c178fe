-- Lists in which nothing is twice.
use Rattle.std.specs.Prelude.{List, [], ◌∷◌, Contains}

abbrev pub AreDifferent : {A : Type 0} → List A → Type 0
AreDifferent [] = Unit {0}
AreDifferent (x ∷ xs) = (¬ Contains xs x) × AreDifferent xs
