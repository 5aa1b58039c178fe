use Rattle.path_planner.proofs.Repeats.{ends_at}
use Rattle.path_planner.proofs.registers.last_reg_is.Goals as goal

pub returns-in-len1-up : goal.returns-in-len1-up
returns-in-len1-up c = ends_at c.args.regs.now c.args.reg c.in-len1-up.len_at_least
