use Rattle.std.proofs.Common.{◌≡◌, ◌≤◌, ◌-◌, drop, length, take}
use Rattle.ij_bits.specs.BitLists.{bits_eq}
use Rattle.svf_notes.proofs.bits.are_same.Given as goal

abbrev pub invariant-loop-done : goal.invariant-loop-done
invariant-loop-done l =
    let bits = take (length l.other.items) (drop l.at l.bits.items) in
    record {
      within : l.done ≤ l.width;
      left : bits_eq (drop l.done bits) (drop l.done l.other.items) ≡ bits_eq bits l.other.items;
    }

abbrev pub decreases-loop-done : goal.decreases-loop-done
decreases-loop-done l = l.width - l.done
