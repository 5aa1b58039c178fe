use Rattle.std.proofs.Common.{◌∙◌}
use Rattle.net_wave.proofs.wave.play.Goals as goal

pub returns-clause-text : goal.returns-clause-text
returns-clause-text c = c.skip.ensures.text ∙ c.in_ok-playing.ensures.text

pub returns-clause-differs : goal.returns-clause-differs
returns-clause-differs c = c.skip.ensures.differs ∙ c.in_ok-playing.ensures.differs
