use Rattle.icl_frames.proofs.Siblings.{frames_are_tree}
use Rattle.icl_frames.proofs.laws.frames_are_tree.Goals as goal

pub returns : goal.returns
returns c = frames_are_tree
