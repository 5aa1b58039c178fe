-- What a list of bytes is as a piece of an ICL text (IEEE 1687-2014): a gap, or a token of some kind.
use Rattle.std.specs.Prelude.{ℕ, ◌==◌, Bool, true, false, not, ◌||◌, cond, List, [], ◌∷◌, Option, Some, None}
use Rattle.std.specs.Prelude.{codes}
use Rattle.std.specs.Char.{is_ascii_digit, is_ascii_hexdigit}
use Rattle.ij_text.specs.Bytes.{is_blank}
use Rattle.ij_text.specs.Words.{begins_name, in_name}
use Rattle.icl_lexer.specs.declared.token.TokenKind.{TokenKind}
use Rattle.icl_lexer.specs.declared.token.TokenKind.TheVariants.{Word, Decimal, Sized, Quoted, Param, Mark}
use Rattle.icl_lexer.specs.declared.token.PieceKind.{PieceKind}
use Rattle.icl_lexer.specs.declared.token.PieceKind.TheVariants.{Gap, Is}

-- ---- bytes

abbrev pub in_decimal : ℕ → Bool
in_decimal b = is_ascii_digit b || b == 95

-- b B d D h H
abbrev pub is_base : ℕ → Bool
is_base b = b == 98 || (b == 66 || (b == 100 || (b == 68 || (b == 104 || b == 72))))

-- a hexadecimal digit, x or X
abbrev pub is_digit_x : ℕ → Bool
is_digit_x b = is_ascii_hexdigit b || (b == 120 || b == 88)

abbrev pub in_digits : ℕ → Bool
in_digits b = is_digit_x b || b == 95

-- a comment after `//` lasts up to the line feed, which isn't in it
abbrev pub in_line : ℕ → Bool
in_line b = not (b == 10)

abbrev pub is_one_of : List ℕ → ℕ → Bool
is_one_of [] b = false
is_one_of (c ∷ cs) b = b == c || is_one_of cs b

abbrev pub is_mark : ℕ → Bool
is_mark b = is_one_of (codes "{}()[];:,.=~|+-*/%") b

-- ---- what a piece is whose first bytes are known, told by the bytes after them: those up to the piece's end

-- nothing may follow
abbrev pub ends : PieceKind → List ℕ → Option PieceKind
ends kind [] = Some kind
ends kind (b ∷ bs) = None

-- bytes of a class may follow
abbrev pub run : (ℕ → Bool) → PieceKind → List ℕ → Option PieceKind
run class kind [] = Some kind
run class kind (b ∷ bs) = cond (class b) (run class kind bs) None

-- after the base of a sized number: digits, the first of them no `_`
abbrev pub digits : List ℕ → Option PieceKind
digits [] = None
digits (b ∷ bs) = cond (is_digit_x b) (run in_digits (Is Sized) bs) None

-- after the `'` of a sized number
abbrev pub base : List ℕ → Option PieceKind
base [] = None
base (b ∷ bs) = cond (is_base b) (digits bs) None

-- a decimal or a parameter may be the size of a sized number, whose `'` (39) follows
abbrev pub size : (ℕ → Bool) → TokenKind → List ℕ → Option PieceKind
size class kind [] = Some (Is kind)
size class kind (b ∷ bs) = cond (class b) (size class kind bs) (cond (b == 39) (base bs) None)

abbrev pub decimal : List ℕ → Option PieceKind
decimal bs = size in_decimal Decimal bs

abbrev pub parameter : List ℕ → Option PieceKind
parameter bs = size in_name Param bs

-- after the `$` of a parameter
abbrev pub dollar : List ℕ → Option PieceKind
dollar [] = None
dollar (b ∷ bs) = cond (begins_name b) (parameter bs) None

-- in quoted text, up to the `"` (34) that ends it: after a backslash (92) any byte is a part of the text
abbrev pub quoted : Bool → List ℕ → Option PieceKind
quoted escaped [] = None
quoted true (b ∷ bs) = quoted false bs
quoted false (b ∷ bs) = cond (b == 34) (ends (Is Quoted) bs) (quoted (b == 92) bs)

-- in a comment, up to the first `*/` (42, 47); it is told whether the byte before was a `*` of the comment
abbrev pub block : Bool → List ℕ → Option PieceKind
block star [] = None
block true (b ∷ bs) = cond (b == 47) (ends Gap bs) (block (b == 42) bs)
block false (b ∷ bs) = block (b == 42) bs

-- after a `/`: a mark, or a comment
abbrev pub slash : List ℕ → Option PieceKind
slash [] = Some (Is Mark)
slash (b ∷ bs) = cond (b == 47) (run in_line Gap bs) (cond (b == 42) (block false bs) None)

-- what the whole list is as a piece, if it is one
abbrev pub kind_of : List ℕ → Option PieceKind
kind_of [] = None
kind_of (b ∷ bs) =
    cond (is_blank b) (ends Gap bs)
    (cond (begins_name b) (run in_name (Is Word) bs)
    (cond (is_ascii_digit b) (decimal bs)
    (cond (b == 36) (dollar bs)
    (cond (b == 39) (base bs)
    (cond (b == 34) (quoted false bs)
    (cond (b == 47) (slash bs)
    (cond (is_mark b) (ends (Is Mark) bs) None)))))))
