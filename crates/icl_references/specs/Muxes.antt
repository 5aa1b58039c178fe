-- The rows of a multiplexer (IEEE 1687-2014, ICL: ScanMux): an x matches both values of a bit, and no value
-- is in two rows.
use Rattle.std.specs.Prelude.{ℕ, Bool, true, false, ◌&&◌, ◌||◌, List, [], ◌∷◌, length, Option, Some, None, Ok}
use Rattle.std.specs.List.{list_any}
use Rattle.ij_bits.specs.BitLists.{same_bit}
use Rattle.ij_text.specs.declared.Place.{Place}
use Rattle.icl_lexer.specs.Values.{SeenSig, SeenRow}
use Rattle.icl_declarations.specs.Faults.{Answer, ◌>>=◌, refuse_if, each, RowsOverlap}
use Rattle.icl_declarations.specs.Values.{OpenBits}
use Rattle.icl_declarations.specs.Widths.{value_in}
use Rattle.icl_frames.specs.FirstPass.{Frame}
use Rattle.icl_references.specs.Names.{Here}
use Rattle.icl_references.specs.Signals.{scan_signal, select_signals}
use Rattle.icl_references.specs.Roles.{Choice, Role, AScanMux}

-- ---- overlaps

abbrev pub meet_at : Option Bool → Option Bool → Bool
meet_at None b = true
meet_at (Some a) None = true
meet_at (Some a) (Some b) = same_bit a b

-- whether some bits match both values
abbrev pub meet : OpenBits → OpenBits → Bool
meet [] bs = true
meet (a ∷ as') [] = true
meet (a ∷ as') (b ∷ bs) = meet_at a b && meet as' bs

abbrev pub rows_meet : Choice → Choice → Bool
rows_meet r s = list_any (λ v. list_any (meet v) s.values) r.values

-- whether two rows overlap
abbrev pub some_meet : List Choice → Bool
some_meet [] = false
some_meet (r ∷ rows) = list_any (rows_meet r) rows || some_meet rows

-- ---- rows

module _ (frames : List Frame) (here : Here) where
  -- the values, then the source
  unfoldable pub row_in : Place → ℕ → SeenRow → Answer Choice
  row_in at width r = do
    values ← each (value_in here.frame.params at width) r.values
    source ← scan_signal frames here r.source
    Ok (record { values = values; source = source })

  -- the select, then the rows, then whether two of them overlap
  unfoldable pub mux_role : Place → List SeenSig → List SeenRow → Answer Role
  mux_role at select rows = do
    bits ← select_signals frames here at select
    choices ← each (row_in at (length bits)) rows
    apart ← refuse_if (some_meet choices) (RowsOverlap at)
    Ok (AScanMux bits choices)
