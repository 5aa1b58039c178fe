use Rattle.svf_notes.proofs.Numbered.{scans_are_numbered}
use Rattle.svf_notes.proofs.laws.scans_are_numbered.Goals as goal

pub returns : goal.returns
returns c = scans_are_numbered
