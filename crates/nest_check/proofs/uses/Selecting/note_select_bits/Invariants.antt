use Rattle.std.proofs.Common.{◌≡◌, drop}
use Rattle.nest_check.specs.Uses.{HaveFlags, note_select_bits, selected_of}
use Rattle.nest_check.proofs.uses.Selecting.note_select_bits.Given as goal

abbrev pub invariant-loop-bit : goal.invariant-loop-bit
invariant-loop-bit l =
    HaveFlags l.net (selected_of l.self)
    × (note_select_bits (selected_of l.self) (drop l.bit-index l.select) ≡ note_select_bits (selected_of
    l.fn.self) l.select)
