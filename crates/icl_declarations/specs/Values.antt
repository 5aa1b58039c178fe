-- Values of parameters and expressions (IEEE 1687-2014: Parameter, LocalParameter, sized numbers).
use Rattle.std.specs.Prelude.{ℕ, Bool, List, [], ◌∷◌, map, cond, Option, Some, None}
use Rattle.std.specs.Str.{bytes_eq}
use Rattle.ij_bits.specs.BitLists.{bits_of}
use Rattle.ij_text.specs.Numbers.{tern_bits}
use Rattle.icl_declarations.specs.declared.value.Value.{Value}
use Rattle.icl_declarations.specs.declared.value.Value.TheVariants.{Integer, Bits, Text}

-- bits, position 0 first, of which some may be open: an x
abbrev pub OpenBits : Type 0
OpenBits = List (Option Bool)

-- an integer; a number in bits, with a size or without; a text
pub data ParamValue : Type 0 where
  AnInteger : ℕ → ParamValue
  SomeBits : Bool → OpenBits → ParamValue
  AText : List ℕ → ParamValue

abbrev pub seen_value : Value → ParamValue
seen_value (Integer n) = AnInteger n
seen_value (Bits sized t) = SomeBits sized (tern_bits t)
seen_value (Text text) = AText text.items

-- the lowest bits of a number
unfoldable pub number_bits : ℕ → ℕ → OpenBits
number_bits width n = map (λ b. Some b) (bits_of width n)

-- the bits of an integer
abbrev pub integer_bits : ℕ → OpenBits
integer_bits n = number_bits 32 n

-- ---- named values, each name once

pub record Given : Type 0 where
  pub name : List ℕ
  pub value : ParamValue

abbrev pub Params : Type 0
Params = List Given

-- the value of a name
abbrev pub param_value : Params → List ℕ → Option ParamValue
param_value [] name = None
param_value (p ∷ ps) name = cond (bytes_eq name p.name) (Some p.value) (param_value ps name)

-- a value in place of one of the same name, or after the others
abbrev pub with_param : Params → List ℕ → ParamValue → Params
with_param [] name value = record { name = name; value = value } ∷ []
with_param (p ∷ ps) name value =
    cond (bytes_eq name p.name) (record p { value = value } ∷ ps) (p ∷ with_param ps name value)
