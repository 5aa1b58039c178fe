use Rattle.icl_parser.proofs.Uniqueness.{one_design}
use Rattle.icl_parser.proofs.laws.designs_are_one.Goals as goal

pub returns : goal.returns
returns c = one_design
