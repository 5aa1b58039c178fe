use Rattle.net_wave.proofs.Wholeness.{whole}
use Rattle.net_wave.proofs.laws.vars_are_whole.Goals as goal

pub returns : goal.returns
returns c = λ kind net models v is as_many. whole kind net models is as_many v
