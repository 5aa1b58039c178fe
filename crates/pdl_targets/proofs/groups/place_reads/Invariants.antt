use Rattle.std.proofs.Common.{take}
use Rattle.pdl_targets.specs.SeenRounds.{AreGroups, seen_rounds}
use Rattle.pdl_targets.proofs.groups.place_reads.Given as goal

abbrev pub invariant-loop-read : goal.invariant-loop-read
invariant-loop-read l = AreGroups (seen_rounds l.rounds) l._writes (take l.read-index l.reads) l.groups.items
