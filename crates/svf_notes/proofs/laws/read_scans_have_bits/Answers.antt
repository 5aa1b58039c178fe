use Rattle.svf_notes.proofs.HaveBits.{read_have_bits}
use Rattle.svf_notes.proofs.laws.read_scans_have_bits.Goals as goal

pub returns : goal.returns
returns c = read_have_bits c.read_commands_fit.ensures
