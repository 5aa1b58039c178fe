use Rattle.icl_lexer.proofs.Unique.{tokens_or_fault, fault_unique}
use Rattle.icl_lexer.proofs.Total.{cut_or_fault}
use Rattle.icl_lexer.proofs.laws.texts_are_cut_or_at_fault.Goals as goal

pub returns-clause-either : goal.returns-clause-either
returns-clause-either c = cut_or_fault

pub returns-clause-not_both : goal.returns-clause-not_both
returns-clause-not_both c = tokens_or_fault

pub returns-clause-one : goal.returns-clause-one
returns-clause-one c = fault_unique
