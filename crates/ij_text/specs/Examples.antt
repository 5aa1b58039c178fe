-- Texts, and the numbers that they say.
use Rattle.std.specs.Prelude.{◌≡◌, true, false, [], ◌∷◌, Some, None, codes, refl}
use Rattle.ij_text.specs.Numbers.{InDecimal, InBits, number_of_text, bits_in}

decimal : number_of_text (codes "01_20") ≡ Some (InDecimal 120)
decimal = refl

zero_alone : number_of_text (codes "0") ≡ Some (InDecimal 0)
zero_alone = refl

binary : number_of_text (codes "0b1_x0") ≡ Some (InBits (Some false ∷ None ∷ Some true ∷ []))
binary = refl

hexadecimal : number_of_text (codes "0xax")
    ≡ Some (InBits (None ∷ None ∷ None ∷ None ∷ Some false ∷ Some true ∷ Some false ∷ Some true ∷ []))
hexadecimal = refl

several_between : number_of_text (codes "1__0") ≡ Some (InDecimal 10)
several_between = refl

one_after : number_of_text (codes "1_") ≡ None
one_after = refl

one_before : number_of_text (codes "0b_1") ≡ None
one_before = refl

no_digit : number_of_text (codes "0x") ≡ None
no_digit = refl

upper_case_base : number_of_text (codes "0B1") ≡ None
upper_case_base = refl

upper_case_x : number_of_text (codes "0bX") ≡ None
upper_case_x = refl

upper_case_digit : number_of_text (codes "0xA")
    ≡ Some (InBits (Some false ∷ Some true ∷ Some false ∷ Some true ∷ []))
upper_case_digit = refl

padded : bits_in 3 (InBits (None ∷ [])) ≡ None ∷ Some false ∷ Some false ∷ []
padded = refl

low_bits : bits_in 3 (InDecimal 6) ≡ Some false ∷ Some true ∷ Some true ∷ []
low_bits = refl
