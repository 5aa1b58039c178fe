-- What a call answers, against how the text is cut.
use Rattle.std.specs.Prelude.{◌≡◌, List, length, ℕ, Result, Ok, Err}
use Rattle.icl_lexer.specs.Token.{Token}
use Rattle.icl_lexer.specs.declared.token.PieceKind.{PieceKind}
use Rattle.icl_lexer.specs.declared.token.PieceKind.TheVariants.{Gap, Is}
use Rattle.icl_lexer.specs.declared.fault.LexFault.{LexFault}
use Rattle.icl_lexer.specs.Cutting.{AreTokens, HasFault}

-- how many tokens there are, or the fault
abbrev pub Gives : List ℕ → Result ℕ LexFault → Type 0
Gives text (Ok count) = (tokens : List Token) × (AreTokens text tokens) × (count ≡ length tokens)
Gives text (Err fault) = HasFault text fault

-- how many tokens a piece is
abbrev pub count_of : PieceKind → ℕ
count_of Gap = 0
count_of (Is kind) = 1
