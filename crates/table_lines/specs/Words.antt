-- What a word of a line says: a name, a path, a number, an opcode, an entry of a memory or a slice.
use Rattle.std.specs.Prelude.{ℕ, ◌+◌, ◌*◌, ◌^◌, nat_le, nat_lt, Bool, false, not, ◌&&◌, ◌||◌, cond, List, []}
use Rattle.std.specs.Prelude.{◌∷◌, length, map, drop, Option, Some, None}
use Rattle.std.specs.Option.{is_some}
use Rattle.std.specs.Char.{is_ascii_hexdigit}
use Rattle.std.specs.List.{list_all, list_any}
use Rattle.ij_bits.specs.BitLists.{number_of}
use Rattle.ij_text.specs.Numbers.{Written, InDecimal, InBits, number_of_text, hex_value, bits_in}
use Rattle.ij_text.specs.Words.{is_name}
use Rattle.ij_text.specs.Options.{both}
use Rattle.ij_text.specs.Parts.{split}

-- ---- names

-- names with a `.` (46) between two of them
unfoldable pub path : List ℕ → Option (List (List ℕ))
path text = cond (list_all is_name (split 46 text)) (Some (split 46 text)) None

-- ---- numbers

abbrev pub is_too_wide : Written → Bool
is_too_wide (InDecimal n) = nat_le (2 ^ 128) n
is_too_wide (InBits bits) = nat_lt 4096 (length bits)

abbrev pub unless_too_wide : Option Written → Option Written
unless_too_wide None = None
unless_too_wide (Some w) = cond (is_too_wide w) None (Some w)

-- a number of PDL that isn't too wide for one
unfoldable pub number : List ℕ → Option Written
number text = unless_too_wide (number_of_text text)

abbrev pub decimal_or_none : Option Written → Option ℕ
decimal_or_none None = None
decimal_or_none (Some (InDecimal n)) = Some n
decimal_or_none (Some (InBits bits)) = None

unfoldable pub decimal : List ℕ → Option ℕ
decimal text = decimal_or_none (number text)

abbrev pub is_open : Option Bool → Bool
is_open bit = not (is_some bit)

abbrev pub is_one : Option Bool → Bool
is_one None = false
is_one (Some b) = b

-- the number of bits, none of them open
abbrev pub without_x : Option Written → Option ℕ
without_x None = None
without_x (Some (InDecimal n)) = Some n
without_x (Some (InBits bits)) = cond (list_any is_open bits) None (Some (number_of (map is_one bits)))

unfoldable pub plain : List ℕ → Option ℕ
plain text = without_x (number text)

-- whether a 1 or an x is at the width or above
unfoldable pub is_wide : ℕ → Written → Bool
is_wide width (InDecimal n) = nat_le (2 ^ width) n
is_wide width (InBits bits) = list_any (λ bit. is_open bit || is_one bit) (drop width bits)

-- the number in a width, 0 at open bits, and the bits that aren't open
unfoldable pub value_in : ℕ → Written → ℕ
value_in width w = number_of (map is_one (bits_in width w))

unfoldable pub care_in : ℕ → Written → ℕ
care_in width w = number_of (map is_some (bits_in width w))

-- ---- hexadecimal digits

abbrev pub hex_from : ℕ → List ℕ → ℕ
hex_from n [] = n
hex_from n (d ∷ ds) = hex_from (16 * n + hex_value d) ds

-- the number of this many hexadecimal digits, in either case
unfoldable pub hex : ℕ → ℕ → List ℕ → Option ℕ
hex least most text =
    cond (nat_le least (length text) && (nat_le (length text) most && list_all is_ascii_hexdigit text))
    (Some (hex_from 0 text)) None

-- ---- brackets

-- the text between `]` (93) at the end and what comes before
abbrev pub closed : List (List ℕ) → Option (List ℕ)
closed [] = None
closed (inside ∷ []) = None
closed (inside ∷ [] ∷ []) = Some inside
closed (inside ∷ [] ∷ us ∷ ts) = None
closed (inside ∷ (b ∷ bs) ∷ ts) = None

abbrev pub named : List ℕ → Option (List ℕ) → Option (List ℕ × List ℕ)
named name None = None
named name (Some inside) = cond (is_name name) (Some (name, inside)) None

abbrev pub opened : List (List ℕ) → Option (List ℕ × List ℕ)
opened [] = None
opened (name ∷ []) = None
opened (name ∷ rest ∷ []) = named name (closed (split 93 rest))
opened (name ∷ rest ∷ t ∷ ts) = None

-- a name and what is in brackets (91, 93) after it
abbrev pub bracketed : List ℕ → Option (List ℕ × List ℕ)
bracketed text = opened (split 91 text)

-- `MEM[NAME]`
abbrev pub two_names : Option (List ℕ × List ℕ) → Option (List ℕ × List ℕ)
two_names None = None
two_names (Some e) = cond (is_name e.1) (Some e) None

unfoldable pub entry : List ℕ → Option (List ℕ × List ℕ)
entry text = two_names (bracketed text)

-- a slice of a word, whole or from index to index
pub record Slice : Type 0 where
  pub word : List ℕ
  pub bounds : Option (ℕ × ℕ)

-- `L:R`
abbrev pub two_decimals : List (List ℕ) → Option (ℕ × ℕ)
two_decimals [] = None
two_decimals (l ∷ []) = None
two_decimals (l ∷ r ∷ []) = both (decimal l) (decimal r)
two_decimals (l ∷ r ∷ t ∷ ts) = None

abbrev pub part_of : List ℕ → Option (ℕ × ℕ) → Option Slice
part_of word None = None
part_of word (Some bounds) = Some (record { word = word; bounds = Some bounds })

abbrev pub bounded : Option (List ℕ × List ℕ) → Option Slice
bounded None = None
bounded (Some e) = part_of e.0 (two_decimals (split 58 e.1))

-- `NAME` or `NAME[L:R]`
unfoldable pub slice : List ℕ → Option Slice
slice text = cond (is_name text) (Some (record { word = text; bounds = None })) (bounded (bracketed text))
