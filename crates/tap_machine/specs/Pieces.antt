-- What several clocks of a play at once stand for.
use Rattle.std.specs.Prelude.{ℕ, suc, Bool, false, cond, List, [], ◌∷◌, get_or, drop, Option, None}
use Rattle.ij_bits.specs.BitLists.{bits_of}
use Rattle.tap_machine.specs.declared.Pins.{Pins}
use Rattle.tap_machine.specs.declared.Piece.{Piece}
use Rattle.tap_machine.specs.Play.{is_empty, masked}

-- clocks in a row from position k of a scan on: the last has this TMS, the others 0
abbrev pub stretch : ℕ → ℕ → Bool → List Bool → List (Option Bool) → List Pins
stretch scan k tms [] es = []
stretch scan k tms (t ∷ ts) es =
    record { tms = cond (is_empty ts) tms false; tdi = t; expect = get_or es 0 None; scan = scan; bit = k }
    ∷ stretch scan (suc k) tms ts (drop 1 es)

-- the pins of the clocks, one by one
abbrev pub piece_pins : Piece → List Pins
piece_pins p = stretch p.scan p.bit p.tms (bits_of p.count p.tdi)
    (masked (bits_of p.count p.expected) (bits_of p.count p.compared))
