use Rattle.icl_lexer.proofs.Unique.{tokenization_is_unique}
use Rattle.icl_lexer.proofs.laws.tokenization_is_unique.Goals as goal

pub returns : goal.returns
returns c = tokenization_is_unique
