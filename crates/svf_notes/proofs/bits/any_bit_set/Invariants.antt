use Rattle.std.proofs.Common.{◌≡◌, ◌≤◌, ◌-◌, drop, take}
use Rattle.ij_bits.specs.BitLists.{has_one}
use Rattle.svf_notes.proofs.bits.any_bit_set.Given as goal

abbrev pub invariant-loop-done : goal.invariant-loop-done
invariant-loop-done l =
    let bits = take l.width (drop l.at l.bits.items) in
    record { within : l.done ≤ l.width; left : has_one (drop l.done bits) ≡ has_one bits }

abbrev pub decreases-loop-done : goal.decreases-loop-done
decreases-loop-done l = l.width - l.done
