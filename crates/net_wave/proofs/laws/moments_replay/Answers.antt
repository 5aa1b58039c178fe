use Rattle.net_wave.proofs.Replay.{replay}
use Rattle.net_wave.proofs.laws.moments_replay.Goals as goal

pub returns : goal.returns
returns c = replay
