use Rattle.std.proofs.Common.{[], take}
use Rattle.pdl_targets.specs.SeenRounds.{AreGroups, seen_rounds}
use Rattle.pdl_targets.proofs.groups.place_writes.Given as goal

abbrev pub invariant-loop-write : goal.invariant-loop-write
invariant-loop-write l = AreGroups (seen_rounds l.rounds) (take l.write-index l.writes) [] l.groups.items
