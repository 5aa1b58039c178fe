use Rattle.std.proofs.Common.{length}
use Rattle.instruments.proofs.runs.+is_output_run.Given as goal

abbrev pub decreases-is_output_run : goal.decreases-is_output_run
decreases-is_output_run l = length l.sigs.now
