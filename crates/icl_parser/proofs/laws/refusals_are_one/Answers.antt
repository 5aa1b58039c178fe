use Rattle.icl_parser.proofs.Uniqueness.{one_fault, not_both}
use Rattle.icl_parser.proofs.laws.refusals_are_one.Goals as goal

pub returns-clause-one : goal.returns-clause-one
returns-clause-one c = one_fault

pub returns-clause-none : goal.returns-clause-none
returns-clause-none c = not_both
