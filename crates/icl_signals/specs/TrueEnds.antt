-- What the code says of ends and entries: an end says truly what its bit stands for, and an entry is a part
-- at its place.
use Rattle.std.specs.Prelude.{◌≡◌, Bool, List, All, Some}
use Rattle.icl_references.specs.Roles.{CellOf, part_at, seen_part}
use Rattle.icl_signals.specs.declared.wires.Wire.{Wire}
use Rattle.icl_signals.specs.declared.wires.End.{End}
use Rattle.icl_signals.specs.declared.wires.End.TheVariants.{AtConstant, AtBit, InLoop}
use Rattle.icl_signals.specs.declared.following.NextBit.{NextBit}
use Rattle.icl_signals.specs.declared.following.NextBit.TheVariants.{Ended, At}
use Rattle.icl_signals.specs.declared.entries.PartAt.{PartAt}
use Rattle.icl_signals.specs.Moves.{Entry, driver_of}

abbrev pub IsTrueEnd : List CellOf → Wire → End → Type 0
IsTrueEnd cells entry (AtConstant b) = Unit {0}
IsTrueEnd cells entry (AtBit w inverted stands) = driver_of cells entry w ≡ stands
IsTrueEnd cells entry InLoop = Unit {0}

-- ---- one move

-- a trace from its next bit on
abbrev pub resume : (Bool → Wire → End) → NextBit → End
resume go (Ended end) = end
resume go (At wire inverted) = go inverted wire

-- it ends at a constant, if it ends
abbrev pub IsConstant : NextBit → Type 0
IsConstant (Ended (AtConstant b)) = Unit {0}
IsConstant (Ended (AtBit w inverted stands)) = ⊥
IsConstant (Ended InLoop) = ⊥
IsConstant (At wire inverted) = Unit {0}

abbrev pub IsTrueNext : List CellOf → Wire → NextBit → Type 0
IsTrueNext cells entry (Ended end) = IsTrueEnd cells entry end
IsTrueNext cells entry (At wire inverted) = Unit {0}

-- ---- entries

abbrev pub seen_entry : PartAt → Entry
seen_entry e = record { cell = e.cell; part = e.part; what = seen_part e.what.now }

-- the part is at its numbers
abbrev pub IsPlaced : List CellOf → PartAt → Type 0
IsPlaced cells e = part_at cells e.cell e.part ≡ Some (seen_part e.what.now)

abbrev pub ArePlaced : List CellOf → List PartAt → Type 0
ArePlaced cells es = All (IsPlaced cells) es
