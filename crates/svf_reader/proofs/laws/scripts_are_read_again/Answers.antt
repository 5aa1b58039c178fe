use Rattle.svf_reader.proofs.Scripting.{whole_script}
use Rattle.svf_reader.proofs.laws.scripts_are_read_again.Goals as goal

pub returns : goal.returns
returns c = whole_script
