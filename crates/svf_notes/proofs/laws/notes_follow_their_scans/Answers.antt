use Rattle.svf_notes.proofs.Noting.{notes_follow}
use Rattle.svf_notes.proofs.laws.notes_follow_their_scans.Goals as goal

pub returns : goal.returns
returns c =
    notes_follow c.read_commands_fit.ensures c.read_scans_are_numbered.ensures
    c.read_commands_are_within_limits.ensures
