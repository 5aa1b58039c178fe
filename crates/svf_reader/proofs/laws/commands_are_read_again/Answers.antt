use Rattle.svf_reader.proofs.Gaps.{after_gap_read}
use Rattle.svf_reader.proofs.laws.commands_are_read_again.Goals as goal

pub returns : goal.returns
returns c = after_gap_read
