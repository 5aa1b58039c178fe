use Rattle.std.proofs.Common.{◌≤◌, Some, drop, take}
use Rattle.ij_io.specs.Bytes.{Adds}
use Rattle.svf_notes.specs.Notes.{digits}
use Rattle.svf_notes.proofs.digits.put_digits.Given as goal

abbrev pub invariant-loop-left : goal.invariant-loop-left
invariant-loop-left l = record {
  within : l.left ≤ l.width;
  adds : Adds (Some l.fn.note) (Some l.note)
      (digits l.shown (drop l.left (take l.width (drop l.at l.bits.items))));
}

abbrev pub decreases-loop-left : goal.decreases-loop-left
decreases-loop-left l = l.left
