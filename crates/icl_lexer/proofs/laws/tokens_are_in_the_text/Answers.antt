use Rattle.icl_lexer.proofs.Total.{tokens_in_text}
use Rattle.icl_lexer.proofs.laws.tokens_are_in_the_text.Goals as goal

pub returns : goal.returns
returns c = tokens_in_text
