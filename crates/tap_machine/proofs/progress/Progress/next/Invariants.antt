use Rattle.std.proofs.Common.{◌≡◌}
use Rattle.tap_machine.specs.Remaining.{remaining_pins, rests_at_end, to_begin, IsUnderWay}
use Rattle.tap_machine.specs.declared.progress.Progress.{Progress}
use Rattle.tap_machine.proofs.progress.Progress.next.Given as goal

pub record Continues (before now : Progress) : Type 0 where
  pub pins : remaining_pins now ≡ remaining_pins before
  pub rests : rests_at_end now ≡ rests_at_end before
  pub sound : IsUnderWay now

abbrev pub invariant-loop-pins : goal.invariant-loop-pins
invariant-loop-pins l = Continues l.fn.self l.self

abbrev pub decreases-loop-pins : goal.decreases-loop-pins
decreases-loop-pins l = to_begin l.self
