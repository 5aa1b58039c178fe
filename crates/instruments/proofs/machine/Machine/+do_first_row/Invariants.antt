use Rattle.std.proofs.Common.{length}
use Rattle.instruments.proofs.machine.Machine.+do_first_row.Given as goal

-- proposed from what the function passes where it calls itself
abbrev pub decreases-do_first_row : goal.decreases-do_first_row
decreases-do_first_row l = length l.rows.now
