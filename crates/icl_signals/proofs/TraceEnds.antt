-- In a hierarchy whose signals name bits that are there, a trace ends at a constant or at a bit that is
-- there, and stands for what the end says.
use Rattle.std.proofs.Common.{◌≡◌, ◌+◌, ℕ, zero, suc, Bool, false, List, refl}
use Rattle.ij_bits.specs.BitLists.{flip_if}
use Rattle.icl_references.specs.declared.hier.Ref.{Ref}
use Rattle.icl_references.specs.declared.hier.Ref.TheVariants.{Fixed, Bit}
use Rattle.icl_references.specs.Roles.{CellOf}
use Rattle.icl_elab.specs.Laws.{IsRefOf, AreWired}
use Rattle.icl_signals.specs.declared.wires.Wire.{Wire}
use Rattle.icl_signals.specs.declared.wires.Driver.{Driver}
use Rattle.icl_signals.specs.declared.wires.Driver.TheVariants.{Another, ARegisterBit, AMuxOutput}
use Rattle.icl_signals.specs.declared.wires.Driver.TheVariants.{AnInstrumentOutput, TheEntry, AFreeInput}
use Rattle.icl_signals.specs.declared.wires.Driver.TheVariants.{NothingAtAll}
use Rattle.icl_signals.specs.declared.wires.End.{End}
use Rattle.icl_signals.specs.declared.wires.End.TheVariants.{AtConstant, AtBit, InLoop}
use Rattle.icl_signals.specs.Moves.{driver_of}
use Rattle.icl_signals.specs.Traces.{from_move, follow, signal_bits, trace}
use Rattle.icl_signals.proofs.Joined.{move_good}

abbrev pub IsBitThere : List CellOf → Wire → Type 0
IsBitThere cells w = IsRefOf cells (Bit w.cell w.part w.pos false)

module _ (cells : List CellOf) (entry : Wire) where
  abbrev pub EndsThere : End → Type 0
  EndsThere (AtConstant b) = Unit {0}
  EndsThere (AtBit w inverted stands) = IsBitThere cells w × (driver_of cells entry w ≡ stands)
  EndsThere InLoop = Unit {0}

  module _ (wired : AreWired cells) where
    follow_there : (n : ℕ) (inverted : Bool) (w : Wire) → IsBitThere cells w
        → EndsThere (follow cells entry n inverted w)
    follow_there zero inverted w h = tt
    follow_there (suc n) inverted w h = by_move (driver_of cells entry w) refl (λ b v. follow_there n b v)
      where
        by_move : (s : Driver) → driver_of cells entry w ≡ s
            → ((b : Bool) (v : Wire) → IsBitThere cells v → EndsThere (follow cells entry n b v))
            → EndsThere (from_move (follow cells entry n) inverted w s)
        by_move (Another (Fixed c)) e again = tt
        by_move (Another (Bit cell part pos turned)) e again = again (flip_if turned inverted)
            (record { cell = cell; part = part; pos = pos })
            (move_good cells entry w (Bit cell part pos turned) wired e)
        by_move ARegisterBit e again = (h, e)
        by_move AMuxOutput e again = (h, e)
        by_move AnInstrumentOutput e again = (h, e)
        by_move TheEntry e again = (h, e)
        by_move AFreeInput e again = (h, e)
        by_move NothingAtAll e again = (h, e)

    pub trace_there : (r : Ref) → IsRefOf cells r → EndsThere (trace cells entry r)
    unfolding trace
    trace_there (Fixed b) h = tt
    trace_there (Bit cell part pos turned) h = follow_there (signal_bits cells + 1) (flip_if turned false)
        (record { cell = cell; part = part; pos = pos }) h
