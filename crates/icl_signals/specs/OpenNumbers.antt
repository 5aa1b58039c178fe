-- Numbers with open bits as a network has them, from their bits: those that count, each with its value, and
-- the open ones (IEEE 1687-2014, ICL: ResetValue, rows of a ScanMux, values of an Enum).
use Rattle.std.specs.Prelude.{◌≡◌, ℕ, zero, suc, Bool, false, List, [], ◌∷◌, length, map, Some, None}
use Rattle.std.specs.Prelude.{slice_index_or, is_some, refl}
use Rattle.std.specs.Option.{unwrap_or}
use Rattle.std.proofs.Common.{ap}
use Rattle.std.proofs.lemmas.Bool.{true≢false}
use Rattle.ij_bits.specs.Room.{Listed, full}
use Rattle.ij_bits.specs.declared.tern.Tern.{Tern}
use Rattle.icl_declarations.specs.Values.{OpenBits}
use Rattle.icl_references.specs.Roles.{Word}

-- the bits that count, and 0 where a bit is open
abbrev pub values_of : OpenBits → List Bool
values_of bits = map (λ bit. unwrap_or bit false) bits

-- which bits count
abbrev pub cares_of : OpenBits → List Bool
cares_of bits = map is_some bits

pub as_long : (bits : OpenBits) → length (values_of bits) ≡ length (cares_of bits)
as_long [] = refl
as_long (bit ∷ bits) = ap suc (as_long bits)

pub open_are_zero : (bits : OpenBits) (k : ℕ) → slice_index_or (cares_of bits) k false ≡ false
    → slice_index_or (values_of bits) k false ≡ false
open_are_zero [] k e = e
open_are_zero (None ∷ bits) zero e = refl
open_are_zero (Some bit ∷ bits) zero e = absurd (true≢false e)
open_are_zero (bit ∷ bits) (suc k) e = open_are_zero bits k e

-- the number with these bits
abbrev pub tern_of : OpenBits → Tern
tern_of bits = record {
  value = full (values_of bits);
  care = full (cares_of bits);
  same_length = as_long bits;
  open_is_zero = open_are_zero bits;
}

-- a word of an enumeration with its value
abbrev pub word_of : Word → Listed ℕ × Tern
word_of w = (full w.name, tern_of w.value)
