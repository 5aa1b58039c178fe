use Rattle.icl_frames.proofs.Holding.{frames_are_declared, frames_are_few}
use Rattle.icl_frames.proofs.laws.frames_are_within_limits.Goals as goal

pub returns-clause-each : goal.returns-clause-each
returns-clause-each c = frames_are_declared

pub returns-clause-all : goal.returns-clause-all
returns-clause-all c = frames_are_few
