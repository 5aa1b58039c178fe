-- The tokens that are written one by one, without where their texts lie in memory.
use Rattle.std.specs.Prelude.{[], ◌∷◌, ◌++◌, decimal}
use Rattle.icl_lexer.specs.declared.token.TokenKind.TheVariants as kind
use Rattle.icl_printer.specs.declared.token.Piece.{Piece}
use Rattle.icl_printer.specs.declared.token.Piece.TheVariants.{Word, Name, Mark, Decimal, Sized, Quoted}
use Rattle.icl_printer.specs.declared.token.Piece.TheVariants.{Param}
use Rattle.icl_printer.specs.Layout.{Spelling, word, mark}

abbrev pub spelled : Piece → Spelling
spelled (Word w) = word w.now
spelled (Name n) = word n.now.items
spelled (Mark c) = mark c
spelled (Decimal n) = record { kind = kind.Decimal; text = decimal n }
spelled (Sized t) = record { kind = kind.Sized; text = t.now.items }
spelled (Quoted t) = record { kind = kind.Quoted; text = 34 ∷ (t.now.items ++ (34 ∷ [])) }
spelled (Param n) = record { kind = kind.Param; text = 36 ∷ n.now.items }
