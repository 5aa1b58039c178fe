-- What a bit's part is, by what the bit stands for.
use Rattle.std.proofs.Common.{◌≡◌, ℕ, Bool, true, false, cond, List, Option, Some, None, refl}
use Rattle.std.specs.Prelude.{slice_get}
use Rattle.icl_elab.specs.WellFormed.{is_register, is_mux, is_data_out}
use Rattle.icl_references.specs.declared.hier.Ref.{Ref}
use Rattle.icl_references.specs.Roles.{Role, ScanInput, ScanOutput, DataInput, DataOutput, ControlPort}
use Rattle.icl_references.specs.Roles.{AScanRegister, AScanMux, AnAliasOf, AnInstance, AnInterfaceOf}
use Rattle.icl_references.specs.Roles.{AnAccessLink, PartOf, CellOf, part_of, part_at}
use Rattle.icl_signals.specs.declared.wires.Wire.{Wire}
use Rattle.icl_signals.specs.declared.wires.Driver.{Driver}
use Rattle.icl_signals.specs.declared.wires.Driver.TheVariants.{Another, ARegisterBit, AMuxOutput}
use Rattle.icl_signals.specs.declared.wires.Driver.TheVariants.{AnInstrumentOutput, TheEntry, AFreeInput}
use Rattle.icl_signals.specs.declared.wires.Driver.TheVariants.{NothingAtAll}
use Rattle.icl_signals.specs.Moves.{is_top, is_instrument_cell, one_ref, role_move, part_move, is_entry}
use Rattle.icl_signals.specs.Moves.{driver_of}

-- what is so of the role, and of whether the cell is an instrument
abbrev pub IsOfRole : Driver → Bool → Role → Type 0
IsOfRole ARegisterBit instrument role = is_register role ≡ true
IsOfRole AMuxOutput instrument role = is_mux role ≡ true
IsOfRole AnInstrumentOutput instrument role = (is_data_out role ≡ true) × (instrument ≡ true)
IsOfRole (Another r) instrument role = Unit {0}
IsOfRole TheEntry instrument role = Unit {0}
IsOfRole AFreeInput instrument role = Unit {0}
IsOfRole NothingAtAll instrument role = Unit {0}

of_ref : (o : Option Ref) (instrument : Bool) (role : Role) → IsOfRole (one_ref o) instrument role
of_ref None instrument role = tt
of_ref (Some r) instrument role = tt

role_is : (top instrument : Bool) (role : Role) (pos : ℕ)
    → IsOfRole (role_move top instrument role pos) instrument role
role_is top instrument (AScanRegister scan capture reset) pos = refl
role_is top instrument (AScanMux select rows) pos = refl
role_is top instrument (ScanInput bound) pos = of_ref bound instrument (ScanInput bound)
role_is top instrument (ScanOutput source) pos = of_ref source instrument (ScanOutput source)
role_is true instrument (DataInput bound) pos = tt
role_is false instrument (DataInput None) pos = tt
role_is false instrument (DataInput (Some refs)) pos =
    of_ref (slice_get refs pos) instrument (DataInput (Some refs))
role_is top true (DataOutput None) pos = (refl, refl)
role_is top false (DataOutput None) pos = tt
role_is top instrument (DataOutput (Some refs)) pos =
    of_ref (slice_get refs pos) instrument (DataOutput (Some refs))
role_is top instrument ControlPort pos = tt
role_is top instrument (AnAliasOf refs) pos = tt
role_is top instrument (AnInstance cell) pos = tt
role_is top instrument (AnInterfaceOf ports) pos = tt
role_is top instrument (AnAccessLink selections) pos = tt

-- a part that is there, of such a role
pub record IsAtPart (stands : Driver) (instrument : Bool) (o : Option PartOf) : Type 0 where
  pub part : PartOf
  pub there : o ≡ Some part
  pub role : IsOfRole stands instrument part.role

-- at a bit of a register or an instrument's output, or at a multiplexer's output
abbrev pub IsAtSome : Driver → Bool → Option PartOf → Type 0
IsAtSome ARegisterBit instrument o = IsAtPart ARegisterBit instrument o
IsAtSome AMuxOutput instrument o = IsAtPart AMuxOutput instrument o
IsAtSome AnInstrumentOutput instrument o = IsAtPart AnInstrumentOutput instrument o
IsAtSome (Another r) instrument o = Unit {0}
IsAtSome TheEntry instrument o = Unit {0}
IsAtSome AFreeInput instrument o = Unit {0}
IsAtSome NothingAtAll instrument o = Unit {0}

at_part : (stands : Driver) (instrument : Bool) (p : PartOf)
    → IsOfRole stands instrument p.role → IsAtSome stands instrument (Some p)
at_part ARegisterBit instrument p h = record { part = p; there = refl; role = h }
at_part AMuxOutput instrument p h = record { part = p; there = refl; role = h }
at_part AnInstrumentOutput instrument p h = record { part = p; there = refl; role = h }
at_part (Another r) instrument p h = tt
at_part TheEntry instrument p h = tt
at_part AFreeInput instrument p h = tt
at_part NothingAtAll instrument p h = tt

part_is : (top instrument : Bool) (o : Option PartOf) (pos : ℕ)
    → IsAtSome (part_move top instrument o pos) instrument o
part_is top instrument None pos = tt
part_is top instrument (Some p) pos =
    at_part (role_move top instrument p.role pos) instrument p (role_is top instrument p.role pos)

pub stands_at : (cells : List CellOf) (entry w : Wire)
    → IsAtSome (driver_of cells entry w) (is_instrument_cell cells w.cell) (part_at cells w.cell w.part)
unfolding driver_of
stands_at cells entry w = by_test (is_entry entry w)
  where
    by_test : (b : Bool)
        → IsAtSome (cond b TheEntry (part_move (is_top cells w.cell) (is_instrument_cell cells w.cell)
        (part_at cells w.cell w.part) w.pos)) (is_instrument_cell cells w.cell) (part_at cells w.cell w.part)
    by_test true = tt
    by_test false = part_is (is_top cells w.cell)
        (is_instrument_cell cells w.cell) (part_at cells w.cell w.part) w.pos

-- the cell of a part that is there
pub record IsInCell (cells : List CellOf) (cell part : ℕ) (x : PartOf) : Type 0 where
  pub inside : CellOf
  pub cell_is : slice_get cells cell ≡ Some inside
  pub part_is : slice_get inside.parts part ≡ Some x

pub in_cell : (cells : List CellOf) (cell part : ℕ) (x : PartOf)
    → part_at cells cell part ≡ Some x → IsInCell cells cell part x
in_cell cells cell part x h = by_cell (slice_get cells cell) refl h
  where
    by_cell : (o : Option CellOf) → slice_get cells cell ≡ o
        → part_of o part ≡ Some x → IsInCell cells cell part x
    by_cell None e g = absurd cc
    by_cell (Some c) e g = record { inside = c; cell_is = e; part_is = g }
