-- The parts of an instrument's cell, with their numbers.
use Rattle.std.specs.Prelude.{ℕ, Bool, List, filter}
use Rattle.icl_references.specs.Roles.{Role, PartOf, CellOf}
use Rattle.icl_signals.specs.Moves.{Entry, entries_in}

-- an entry as its number and its part
abbrev pub numbered : Entry → ℕ × PartOf
numbered e = (e.part, e.what)

-- the entries of a cell whose parts pass a test
abbrev pub inside_that : (Role → Bool) → ℕ → CellOf → List Entry
inside_that test cell c = filter (λ e. test e.what.role) (entries_in (cell, c))
