-- Ends of traces that were found: each is where the trace of its bit ends that looks at this many bits, or at
-- more.
use Rattle.std.specs.Prelude.{◌≡◌, ◌<◌, ◌≤◌, ℕ, Bool, false, List, Option, Some, None, All}
use Rattle.ij_bits.specs.BitLists.{flip_if}
use Rattle.icl_references.specs.Roles.{CellOf}
use Rattle.icl_signals.specs.declared.wires.Wire.{Wire}
use Rattle.icl_signals.specs.declared.wires.End.{End}
use Rattle.icl_signals.specs.declared.wires.End.TheVariants.{AtConstant, AtBit, InLoop}
use Rattle.icl_signals.specs.declared.found.Found.{Found}
use Rattle.icl_signals.specs.declared.found.FoundRun.{FoundRun}
use Rattle.icl_signals.specs.declared.found.Note.{Note}
use Rattle.icl_signals.specs.Alike.{wire_after, end_after}
use Rattle.icl_signals.specs.Traces.{follow}
use Rattle.icl_signals.specs.TrueEnds.{IsTrueEnd}

-- an end, or that of the inverse
abbrev pub turned_end : Bool → End → End
turned_end turned (AtConstant b) = AtConstant (flip_if turned b)
turned_end turned (AtBit w inverted stands) = AtBit w (flip_if turned inverted) stands
turned_end turned InLoop = InLoop

-- an end that is found, so many positions after
abbrev pub found_after : ℕ → Found → Found
found_after k f = record { looks = f.looks; end = end_after k f.end }

-- where the trace of a bit ends
pub record IsFound (cells : List CellOf) (entry w : Wire) (f : Found) : Type 0 where
  pub ends : (n : ℕ) → f.looks ≤ n → follow cells entry n false w ≡ f.end
  pub told : IsTrueEnd cells entry f.end

-- where the traces of bits side by side end
pub record AreFoundFrom (cells : List CellOf) (entry w : Wire) (r : FoundRun) : Type 0 where
  pub some : 1 ≤ r.count
  pub each : (k : ℕ) → k < r.count → IsFound cells entry (wire_after k w) (found_after k r.found)

abbrev pub IsNoted : List CellOf → Wire → Option Note → Type 0
IsNoted cells entry None = Unit {0}
IsNoted cells entry (Some n) = AreFoundFrom cells entry n.wire n.run

abbrev pub AreFound : List CellOf → Wire → List (Option Note) → Type 0
AreFound cells entry notes = All (IsNoted cells entry) notes
