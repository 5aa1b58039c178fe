-- Lists of bytes, and what they are as pieces.
use Rattle.std.specs.Prelude.{◌≡◌, ◌++◌, ◌∷◌, [], Some, None, codes, refl}
use Rattle.ij_text.specs.Places.{place_after, first_place}
use Rattle.icl_lexer.specs.declared.token.TokenKind.TheVariants.{Word, Decimal, Sized, Quoted, Param, Mark}
use Rattle.icl_lexer.specs.declared.token.PieceKind.TheVariants.{Gap, Is}
use Rattle.icl_lexer.specs.Pieces.{kind_of}

a_word : kind_of (codes "_a1_B") ≡ Some (Is Word)
a_word = refl

no_word : kind_of (codes "a b") ≡ None
no_word = refl

a_decimal : kind_of (codes "1_0") ≡ Some (Is Decimal)
a_decimal = refl

sized : kind_of (codes "4'b0") ≡ Some (Is Sized)
sized = refl

sized_alone : kind_of (codes "'hFF") ≡ Some (Is Sized)
sized_alone = refl

sized_by_parameter : kind_of (codes "$W'b0_xX") ≡ Some (Is Sized)
sized_by_parameter = refl

no_leading_line : kind_of (codes "8'd_1") ≡ None
no_leading_line = refl

no_digit : kind_of (codes "8'd") ≡ None
no_digit = refl

not_that_base : kind_of (codes "4'q1") ≡ None
not_that_base = refl

quoted_text : kind_of (codes "\"a\\\"b\\c\"") ≡ Some (Is Quoted)
quoted_text = refl

open_text : kind_of (codes "\"a\\\"") ≡ None
open_text = refl

two_texts : kind_of (codes "\"a\"\"") ≡ None
two_texts = refl

a_parameter : kind_of (codes "$W") ≡ Some (Is Param)
a_parameter = refl

a_dollar : kind_of (codes "$") ≡ None
a_dollar = refl

a_mark : kind_of (codes "%") ≡ Some (Is Mark)
a_mark = refl

two_marks : kind_of (codes "{}") ≡ None
two_marks = refl

line_comment : kind_of (codes "// a /* b") ≡ Some Gap
line_comment = refl

block_comment : kind_of (codes "/* a // * / /***/") ≡ Some Gap
block_comment = refl

no_nesting : kind_of (codes "/* /* */ */") ≡ None
no_nesting = refl

star_once : kind_of (codes "/*/") ≡ None
star_once = refl

no_such_byte : kind_of (codes "#") ≡ None
no_such_byte = refl

a_place : place_after first_place (codes "a" ++ (13 ∷ 10 ∷ 9 ∷ [])) ≡ record { line = 2; col = 2 }
a_place = refl
