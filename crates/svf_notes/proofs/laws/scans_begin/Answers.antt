use Rattle.svf_notes.proofs.Noting.{scans_begin}
use Rattle.svf_notes.proofs.laws.scans_begin.Goals as goal

pub returns : goal.returns
returns c = scans_begin c.read_commands_fit.ensures
