use Rattle.headline.proofs.GroupRounds.{registers_need_one_row}
use Rattle.headline.proofs.registers_need_one_row.Goals as goal

pub returns : goal.returns
returns c = record { place = registers_need_one_row }
