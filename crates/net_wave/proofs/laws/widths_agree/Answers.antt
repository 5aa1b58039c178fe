use Rattle.net_wave.proofs.Wide.{widths_agree}
use Rattle.net_wave.proofs.laws.widths_agree.Goals as goal

pub returns : goal.returns
returns c = widths_agree
