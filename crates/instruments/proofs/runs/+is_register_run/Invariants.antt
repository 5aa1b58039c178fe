use Rattle.std.proofs.Common.{length}
use Rattle.instruments.proofs.runs.+is_register_run.Given as goal

abbrev pub decreases-is_register_run : goal.decreases-is_register_run
decreases-is_register_run l = length l.sigs.now
