-- Bits of a part side by side whose traces go on side by side.
use Rattle.std.specs.Prelude.{◌≡◌, ◌<◌, ◌+◌, ℕ, Bool, List}
use Rattle.ij_bits.specs.BitLists.{flip_if}
use Rattle.icl_references.specs.declared.hier.Ref.{Ref}
use Rattle.icl_references.specs.declared.hier.Ref.TheVariants.{Fixed, Bit}
use Rattle.icl_references.specs.RefRuns.{ref_after}
use Rattle.icl_references.specs.Roles.{Role, DataInput, CellOf}
use Rattle.net_graph.specs.declared.net.Sig.{Sig}
use Rattle.net_graph.specs.declared.net.Spot.{Spot}
use Rattle.net_graph.specs.declared.net.Spot.TheVariants.{Inward, Outward}
use Rattle.icl_signals.specs.declared.wires.Wire.{Wire}
use Rattle.icl_signals.specs.declared.wires.End.{End}
use Rattle.icl_signals.specs.declared.wires.End.TheVariants.{AtConstant, AtBit, InLoop}
use Rattle.icl_signals.specs.declared.wires.Driver.{Driver}
use Rattle.icl_signals.specs.declared.wires.Driver.TheVariants.{Another}
use Rattle.icl_signals.specs.declared.following.NextBit.{NextBit}
use Rattle.icl_signals.specs.declared.following.NextBit.TheVariants.{Ended, At}
use Rattle.icl_signals.specs.Moves.{driver_of}

-- ---- so many positions after

abbrev pub wire_after : ℕ → Wire → Wire
wire_after k w = record { cell = w.cell; part = w.part; pos = w.pos + k }

abbrev pub driver_after : ℕ → Driver → Driver
driver_after k (Another r) = Another (ref_after k r)
driver_after k stands = stands

abbrev pub end_after : ℕ → End → End
end_after k (AtConstant b) = AtConstant b
end_after k (AtBit w inverted stands) = AtBit (wire_after k w) inverted stands
end_after k InLoop = InLoop

abbrev pub next_after : ℕ → NextBit → NextBit
next_after k (Ended end) = Ended (end_after k end)
next_after k (At w inverted) = At (wire_after k w) inverted

-- ---- one move

abbrev pub next_ref : Bool → Ref → NextBit
next_ref inverted (Fixed b) = Ended (AtConstant (flip_if inverted b))
next_ref inverted (Bit cell part pos turned) =
    At (record { cell = cell; part = part; pos = pos }) (flip_if turned inverted)

-- the next bit of a trace, or its end, at a bit that stands for this
abbrev pub next_bit : Bool → Wire → Driver → NextBit
next_bit inverted w (Another r) = next_ref inverted r
next_bit inverted w stands = Ended (AtBit w inverted stands)

-- so many bits stand for bits side by side, or for the same
abbrev pub AreAlike : List CellOf → Wire → Wire → ℕ → Type 0
AreAlike cells entry w count = (k : ℕ) → k < count
    → driver_of cells entry (wire_after k w) ≡ driver_after k (driver_of cells entry w)

-- ---- things

-- what a bit of a part that is no register is, with this signal
abbrev pub data_spot : Role → Sig → Spot
data_spot (DataInput bound) s = Inward s
data_spot role s = Outward s
