use Rattle.icl_frames.proofs.WrittenFrames.{frames_are_written}
use Rattle.icl_frames.proofs.laws.frames_have_icl_names.Goals as goal

pub returns : goal.returns
returns c = frames_are_written
