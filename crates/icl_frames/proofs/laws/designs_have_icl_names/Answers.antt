use Rattle.icl_frames.proofs.Derivations.{designs_are_written}
use Rattle.icl_frames.proofs.laws.designs_have_icl_names.Goals as goal

pub returns : goal.returns
returns c = designs_are_written
