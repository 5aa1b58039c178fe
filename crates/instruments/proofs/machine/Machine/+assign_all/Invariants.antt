use Rattle.std.proofs.Common.{length}
use Rattle.instruments.proofs.machine.Machine.+assign_all.Given as goal

-- proposed from what the function passes where it calls itself
abbrev pub decreases-assign_all : goal.decreases-assign_all
decreases-assign_all l = length l.sets.now
