use Rattle.headline.proofs.Sizes.{written_scripts_fit}
use Rattle.headline.proofs.Reading.{written_scripts_are_read}
use Rattle.headline.proofs.written_scripts_law.Goals as goal

pub returns-clause-fit : goal.returns-clause-fit
returns-clause-fit c = written_scripts_fit

pub returns-clause-read : goal.returns-clause-read
returns-clause-read c = written_scripts_are_read
