-- Where a list of tokens leaves the grammar, and why.
use Rattle.std.specs.Prelude.{◌≡◌, List, [], ◌∷◌, ◌++◌, length, Option, Some, None}
use Rattle.ij_text.specs.Symbol.{Symbol}
use Rattle.ij_text.specs.Reading.{Stop}

-- whether the last token is barred
abbrev pub Why : {T W A : Type 0} → Symbol T W A → List T → Option W → Type 0
Why {T} {W} S ts None = (w : W) → S.bars ts w → ⊥
Why S ts (Some w) = S.bars ts w

-- the next token can't follow; at the end, nothing is derived
abbrev pub CantGoOn : {T W A : Type 0} → Symbol T W A → List T → List T → Option W → Type 0
CantGoOn {T} {W} {A} S front [] why = ((a : A) → S.derives front a → ⊥) × (why ≡ None)
CantGoOn S front (t ∷ rest) why = (S.viable (front ++ t ∷ []) → ⊥) × (Why S (front ++ t ∷ []) why)

-- the list is refused with this many tokens left: those before them are viable, and with the next one they
-- aren't
abbrev pub Refused : {T W A : Type 0} → Symbol T W A → List T → Stop W → Type 0
Refused {T} {W} {A} S ts stop = (front : List T) × (rest : List T) × (ts ≡ front ++ rest)
    × (length rest ≡ stop.0) × (S.viable front) × (CantGoOn S front rest stop.1)
