-- Where the reading of a piece is, and what the bytes up to the end of the piece make of it.
use Rattle.std.specs.Prelude.{ℕ, ◌==◌, true, false, cond, List, Option, None}
use Rattle.ij_text.specs.Words.{in_name}
use Rattle.icl_lexer.specs.declared.token.TokenKind.TheVariants.{Word as OfWord, Sized, Mark}
use Rattle.icl_lexer.specs.declared.token.PieceKind.{PieceKind}
use Rattle.icl_lexer.specs.declared.token.PieceKind.TheVariants.{Gap, Is}
use Rattle.icl_lexer.specs.declared.state.State.{State}
use Rattle.icl_lexer.specs.declared.state.State.TheVariants.{Start, Whole, Word, Decimal, Dollar, Parameter}
use Rattle.icl_lexer.specs.declared.state.State.TheVariants.{Apostrophe, Base, Digits, Quoted, Backslash}
use Rattle.icl_lexer.specs.declared.state.State.TheVariants.{Slash, Line, Block, Star, Dead}
use Rattle.icl_lexer.specs.Pieces.{kind_of, ends, run, in_digits, in_line, decimal, dollar, parameter, base}
use Rattle.icl_lexer.specs.Pieces.{digits, quoted, slash, block, is_mark}

-- what a byte and those after it are as a piece, where it begins no gap, word or decimal
abbrev pub kind_of_other : ℕ → List ℕ → Option PieceKind
kind_of_other b bs =
    cond (b == 36) (dollar bs)
    (cond (b == 39) (base bs)
    (cond (b == 34) (quoted false bs)
    (cond (b == 47) (slash bs)
    (cond (is_mark b) (ends (Is Mark) bs) None))))

-- what the whole list is as a piece, from a state on
abbrev pub kind_from : State → List ℕ → Option PieceKind
kind_from Start bs = kind_of bs
kind_from (Whole kind) bs = ends kind bs
kind_from Word bs = run in_name (Is OfWord) bs
kind_from Decimal bs = decimal bs
kind_from Dollar bs = dollar bs
kind_from Parameter bs = parameter bs
kind_from Apostrophe bs = base bs
kind_from Base bs = digits bs
kind_from Digits bs = run in_digits (Is Sized) bs
kind_from Quoted bs = quoted false bs
kind_from Backslash bs = quoted true bs
kind_from Slash bs = slash bs
kind_from Line bs = run in_line Gap bs
kind_from Block bs = block false bs
kind_from Star bs = block true bs
kind_from Dead bs = None
