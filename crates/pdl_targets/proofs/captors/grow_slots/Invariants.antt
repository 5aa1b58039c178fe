use Rattle.std.proofs.Common.{◌≡◌, ◌+◌, ◌-◌, ℕ, length}
use Rattle.pdl_targets.specs.Captors.{captors_in}
use Rattle.pdl_targets.proofs.captors.grow_slots.Given as goal

abbrev pub invariant-longer : goal.invariant-longer
invariant-longer l = (k : ℕ) → captors_in l.slots.items k ≡ captors_in l.fn.slots.items k

abbrev pub decreases-longer : goal.decreases-longer
decreases-longer l = l.slot + 1 - length l.slots.items
