use Rattle.std.proofs.Common.{[], take}
use Rattle.pdl_targets.specs.SeenRounds.{AreGroups, seen_rounds}
use Rattle.pdl_targets.proofs.groups.no_groups.Given as goal

abbrev pub invariant-loop-round : goal.invariant-loop-round
invariant-loop-round l = AreGroups (seen_rounds (take l._round-index l.rounds)) [] [] l.groups.items
