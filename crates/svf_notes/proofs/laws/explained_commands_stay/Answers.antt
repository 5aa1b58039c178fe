use Rattle.svf_notes.proofs.Same.{explained_is_same}
use Rattle.svf_notes.proofs.laws.explained_commands_stay.Goals as goal

pub returns : goal.returns
returns c = explained_is_same
