use Rattle.svf_reader.proofs.Following.{read_commands_fit}
use Rattle.svf_reader.proofs.laws.read_commands_fit.Goals as goal

pub returns : goal.returns
returns c = read_commands_fit
