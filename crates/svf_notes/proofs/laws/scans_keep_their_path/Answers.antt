use Rattle.svf_notes.proofs.Kept.{scans_keep_their_path}
use Rattle.svf_notes.proofs.laws.scans_keep_their_path.Goals as goal

pub returns : goal.returns
returns c = scans_keep_their_path
