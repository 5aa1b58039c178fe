-- What the readers of numbers answer.
use Rattle.std.specs.Prelude.{◌≡◌, Option, Some, None, Result, Ok, Err}
use Rattle.ij_text.specs.declared.Place.{Place}
use Rattle.ij_text.specs.declared.number.Number.{Number}
use Rattle.ij_text.specs.declared.number.NumberFault.{NumberFault}
use Rattle.ij_text.specs.declared.number.NumberFault.TheVariants.{BadNumber, TooWide, OutOfMemory}
use Rattle.ij_text.specs.Numbers.{Written, SaysTooWide, seen}

-- a number that isn't too wide
abbrev pub IsRead : Option Written → Type 0
IsRead w = ((w ≡ None) → ⊥) × (SaysTooWide w → ⊥)

-- a call answers the number that a text says, or its fault; memory is wanted only for a number
abbrev pub Gives : Option Written → Place → Result Number NumberFault → Type 0
Gives w at (Ok n) = (w ≡ Some (seen n)) × (SaysTooWide w → ⊥)
Gives w at (Err (BadNumber place)) = (place ≡ at) × (w ≡ None)
Gives w at (Err (TooWide place)) = (place ≡ at) × (SaysTooWide w)
Gives w at (Err OutOfMemory) = IsRead w
