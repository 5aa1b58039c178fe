use Rattle.ijtag_stages.proofs.Playable.{all_are_playable}
use Rattle.ijtag_stages.proofs.laws.read_commands_are_playable.Goals as goal

pub returns : goal.returns
returns c = all_are_playable
