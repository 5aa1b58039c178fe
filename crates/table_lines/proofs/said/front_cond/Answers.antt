use Rattle.table_lines.proofs.Parting.{short_cond}
use Rattle.table_lines.proofs.said.front_cond.Goals as goal

pub returns-in_default : goal.returns-in_default
returns-in_default c = short_cond c.args.change c.args.words.now c.in_default.len_below
