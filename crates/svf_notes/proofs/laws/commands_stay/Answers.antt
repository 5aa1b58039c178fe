use Rattle.svf_notes.proofs.Same.{same_commands}
use Rattle.svf_notes.proofs.laws.commands_stay.Goals as goal

pub returns : goal.returns
returns c = same_commands
