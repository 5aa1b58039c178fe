use Rattle.std.proofs.Common.{◌-◌, Some}
use Rattle.ij_io.proofs.Fronts.{AddsFront}
use Rattle.svf_notes.specs.Notes.{hex_digits}
use Rattle.svf_notes.proofs.instruction.put_hex_digits.Given as goal

abbrev pub invariant-loop-j : goal.invariant-loop-j
invariant-loop-j l = AddsFront (Some l.fn.note) (Some l.note)
    (hex_digits l.bits.items (l.n - l.j)) (hex_digits l.bits.items l.n)
