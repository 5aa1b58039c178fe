use Rattle.svf_notes.proofs.laws.read_scans_are_numbered.Goals as goal

pub returns : goal.returns
returns c =
    let have = c.read_scans_have_bits.ensures in
    let numbered = c.scans_are_numbered.ensures in
    λ chip from src commands s is. numbered chip from commands s (have src commands is)
