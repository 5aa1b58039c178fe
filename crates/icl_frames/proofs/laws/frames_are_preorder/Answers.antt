use Rattle.icl_frames.proofs.Entering.{frames_are_preorder}
use Rattle.icl_frames.proofs.laws.frames_are_preorder.Goals as goal

pub returns : goal.returns
returns c = frames_are_preorder
