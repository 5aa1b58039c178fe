use Rattle.std.proofs.Common.{sym, ◌∙◌}
use Rattle.net_wave.proofs.DigitSteps.{trimmed_short}
use Rattle.net_wave.proofs.digits.trimmed.Goals as goal

pub returns-in_default : goal.returns-in_default
returns-in_default c = sym (trimmed_short c.loop-rest.rest.now c.in_default.len_below) ∙ c.loop-rest.invariant
