use Rattle.svf_reader.proofs.Few.{read_commands_are_within_limits}
use Rattle.svf_reader.proofs.laws.read_commands_are_within_limits.Goals as goal

pub returns : goal.returns
returns c = read_commands_are_within_limits
