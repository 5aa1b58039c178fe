-- Several clocks of a play at once: TDO in each of them, and the compares.
use Rattle.std.specs.Prelude.{◌≡◌, ◌≤◌, ℕ, List, [], ◌∷◌, ◌++◌, Bool, length, Option, Some, None}
use Rattle.ij_bits.specs.BitLists.{bits_of}
use Rattle.tap_machine.specs.declared.Pins.{Pins}
use Rattle.tap_machine.specs.declared.TapState.TheVariants.{ShiftDr}
use Rattle.tap_machine.specs.Pieces.{piece_pins}
use Rattle.net_bench.specs.Bench.{Chip, State, clock, tdo}
use Rattle.net_bench.specs.Playing.{Compare, compare_of}
use Rattle.net_bench.specs.declared.board.Board.{Board}
use Rattle.net_bench.specs.declared.bench.Played.{Played}
use Rattle.net_bench.specs.declared.instruction.DataRegister.TheVariants.{Network}

-- TDO in each clock of some pins
abbrev pub tdos : {L : Type 0} → Chip L → List Pins → State L → List Bool
tdos chip [] s = []
tdos chip (p ∷ ps) s = tdo chip s ∷ tdos chip ps (clock chip p.tms p.tdi s)

-- what some pins compare, by the bits that were found in their clocks
abbrev pub pin_compares : List Pins → List Bool → List Compare
pin_compares [] found = []
pin_compares (p ∷ ps) [] = []
pin_compares (p ∷ ps) (f ∷ fs) = compare_of p.expect p.scan p.bit f ++ pin_compares ps fs

abbrev pub piece_compares : Played → List Compare
piece_compares p = pin_compares (piece_pins p.piece) (bits_of p.piece.count p.found)

-- the pins, the compares and the number of the clocks that were played at once; none where the play had ended
abbrev pub played_pins : Option Played → List Pins
played_pins None = []
played_pins (Some p) = piece_pins p.piece

abbrev pub played_compares : Option Played → List Compare
played_compares None = []
played_compares (Some p) = piece_compares p

abbrev pub played_count : Option Played → ℕ
played_count None = 0
played_count (Some p) = p.piece.count

-- a board that shifts this many clocks by moving the bits of its active path
pub record CanMove (b : Board) (n : ℕ) : Type 0 where
  pub tap : b.tap ≡ ShiftDr
  pub selected : b.selected ≡ Network
  pub within : n ≤ length b.network.chain.items
