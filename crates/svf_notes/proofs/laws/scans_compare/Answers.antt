use Rattle.svf_notes.proofs.Compared.{scans_compare}
use Rattle.svf_notes.proofs.laws.scans_compare.Goals as goal

pub returns : goal.returns
returns c = scans_compare
