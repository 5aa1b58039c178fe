-- Numbers and expressions, and their values.
use Rattle.std.specs.Prelude.{◌≡◌, true, false, [], ◌∷◌, Some, None, Ok, Err, codes, refl}
use Rattle.ij_text.specs.declared.Place.{Place}
use Rattle.icl_lexer.specs.declared.tree.Sign.TheVariants.{Plus, Minus, Times, Over}
use Rattle.icl_lexer.specs.Values.{SeenExpr, ADecimal, ASized, AQuoted, AParam, AnOp}
use Rattle.icl_declarations.specs.Faults.{NoParameter, DivideByZero, BadNumber, WidthDiffers, WrongKind}
use Rattle.icl_declarations.specs.Values.{AnInteger, SomeBits, AText, Params, number_bits}
use Rattle.icl_declarations.specs.Sized.{base_bits, decimal_bits}
use Rattle.icl_declarations.specs.Expressions.{closed_number, size_of, sized_number, operate, evaluate}
use Rattle.icl_declarations.specs.Expressions.{integer}
use Rattle.icl_declarations.specs.Widths.{value_in}

-- an item, and an operator in it
abbrev pub item : Place
item = record { line = 1; col = 1 }

abbrev pub sign : Place
sign = record { line = 1; col = 9 }

-- W is 8, and T a text
abbrev pub given : Params
given = record { name = codes "W"; value = AnInteger 8 }
    ∷ record { name = codes "T"; value = AText (codes "a") } ∷ []

abbrev pub w : SeenExpr
w = AParam sign (codes "W")

-- `$W*2-1`
pub left_index : integer given item (AnOp sign Minus (AnOp sign Times w (ADecimal 2)) (ADecimal 1)) ≡ Ok 15
unfolding evaluate operate
left_index = refl

pub by_zero : evaluate given item (AnOp sign Over (ADecimal 4) (ADecimal 0)) ≡ Err (DivideByZero sign)
unfolding evaluate operate
by_zero = refl

pub below_zero : evaluate given item (AnOp sign Minus (ADecimal 4) w) ≡ Err (BadNumber sign)
unfolding evaluate operate
below_zero = refl

pub no_parameter : evaluate given item (AnOp sign Plus (AParam sign (codes "V")) (AQuoted []))
    ≡ Err (NoParameter sign (codes "V"))
unfolding evaluate operate
no_parameter = refl

-- a text's fault is at the parameter, or at what holds the text
pub text_parameter : integer given item (AParam sign (codes "T")) ≡ Err (WrongKind sign)
unfolding evaluate operate
text_parameter = refl

pub text_itself : integer given item (AQuoted (codes "a")) ≡ Err (WrongKind item)
unfolding evaluate operate
text_itself = refl

-- ---- sized numbers

pub a_byte : sized_number given item (codes "8'hA5") ≡ Ok (SomeBits true
    (Some true ∷ Some false ∷ Some true ∷ Some false ∷ Some false ∷ Some true ∷ Some false ∷ Some true ∷ []))
unfolding number_bits base_bits decimal_bits size_of sized_number
a_byte = refl

pub open_digits : sized_number given item (codes "4'B1X_0")
    ≡ Ok (SomeBits true (Some false ∷ None ∷ Some true ∷ Some false ∷ []))
unfolding number_bits base_bits decimal_bits size_of sized_number
open_digits = refl

pub size_by_parameter : value_in given item 9 (ASized (codes "$W'b0") ∷ [])
    ≡ value_in given item 9 (ADecimal 0 ∷ [])
unfolding number_bits base_bits decimal_bits size_of sized_number evaluate value_in
size_by_parameter = refl

pub dropped_zeros : sized_number given item (codes "1'd0000001") ≡ Ok (SomeBits true (Some true ∷ []))
unfolding number_bits base_bits decimal_bits size_of sized_number
dropped_zeros = refl

pub too_big_for_its_size : sized_number given item (codes "3'hF") ≡ Err (BadNumber item)
unfolding number_bits base_bits decimal_bits size_of sized_number
too_big_for_its_size = refl

pub not_of_the_base : sized_number given item (codes "4'b12AF") ≡ Err (BadNumber item)
unfolding number_bits base_bits decimal_bits size_of sized_number
not_of_the_base = refl

pub no_size_of_zero : sized_number given item (codes "0'b0") ≡ Err (BadNumber item)
unfolding number_bits base_bits decimal_bits size_of sized_number
no_size_of_zero = refl

pub unknown_size : sized_number given item (codes "$V'b0") ≡ Err (NoParameter item (codes "V"))
unfolding number_bits base_bits decimal_bits size_of sized_number
unknown_size = refl

pub a_number_as_integer : integer given item (ASized (codes "8'h0F")) ≡ Ok 15
unfolding number_bits base_bits decimal_bits size_of sized_number closed_number evaluate
a_number_as_integer = refl

pub no_open_integer : integer given item (ASized (codes "8'h0x")) ≡ Err (BadNumber item)
unfolding number_bits base_bits decimal_bits size_of sized_number closed_number evaluate
no_open_integer = refl

-- ---- widths

pub too_wide : value_in given item 2 (ADecimal 4 ∷ []) ≡ Err (WidthDiffers item)
unfolding number_bits evaluate value_in
too_wide = refl

pub zeros_above : value_in given item 3 (ASized (codes "'b00000100") ∷ [])
    ≡ Ok (Some false ∷ Some false ∷ Some true ∷ [])
unfolding number_bits base_bits decimal_bits size_of sized_number evaluate value_in
zeros_above = refl

pub no_sized_zeros_above : value_in given item 3 (ASized (codes "4'b0100") ∷ []) ≡ Err (WidthDiffers item)
unfolding number_bits base_bits decimal_bits size_of sized_number evaluate value_in
no_sized_zeros_above = refl

-- the left part is high, and zeros are added on the left
pub two_parts : value_in given item 4 (ASized (codes "1'b1") ∷ ASized (codes "2'b00") ∷ [])
    ≡ Ok (Some false ∷ Some false ∷ Some true ∷ Some false ∷ [])
unfolding number_bits base_bits decimal_bits size_of sized_number evaluate value_in
two_parts = refl

pub part_without_size : value_in given item 4 (ASized (codes "1'b1") ∷ w ∷ []) ≡ Err (WrongKind sign)
unfolding number_bits base_bits decimal_bits size_of sized_number evaluate value_in
part_without_size = refl
