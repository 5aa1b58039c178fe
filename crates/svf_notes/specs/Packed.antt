-- The bits of a scan as lists of its four values, and as words.
use Rattle.std.specs.Prelude.{◌≡◌, ◌&&◌, not, ℕ, Bool, cond, Option, None, Some, List, [], ◌∷◌, length}
use Rattle.ij_bits.specs.BitLists.{bits_of, same_bit}
use Rattle.svf_notes.specs.declared.bits.BitPart.{BitPart}
use Rattle.svf_notes.specs.declared.scan.Shifted.{Shifted}

-- the bits of a scan, position 0 first
pub record ScanItems : Type 0 where
  pub items : List Shifted

-- what is expected, where it is compared
abbrev pub expect_of : Bool → Bool → Option Bool
expect_of compared expected = cond compared (Some expected) None

-- one bit for each of as many values
abbrev pub together : List Bool → List Bool → List Bool → List Bool → List Shifted
together [] cs es fs = []
together (t ∷ ts) [] es fs = []
together (t ∷ ts) (c ∷ cs) [] fs = []
together (t ∷ ts) (c ∷ cs) (e ∷ es) [] = []
together (t ∷ ts) (c ∷ cs) (e ∷ es) (f ∷ fs) =
    record { tdi = t; expect = expect_of c e; found = f } ∷ together ts cs es fs

-- as many of each of the other three values
pub record AreAsMany (n : ℕ) (cs es fs : List Bool) : Type 0 where
  pub compared : length cs ≡ n
  pub expected : length es ≡ n
  pub found : length fs ≡ n

abbrev pub part_bits : BitPart → List Shifted
part_bits p =
    together (bits_of p.count p.tdi) (bits_of p.count p.compared)
    (bits_of p.count p.expected) (bits_of p.count p.found)

-- which of some bits are compared, and found to be another than is expected
abbrev pub differing : List Bool → List Bool → List Bool → List Bool
differing [] es fs = []
differing (c ∷ cs) [] fs = []
differing (c ∷ cs) (e ∷ es) [] = []
differing (c ∷ cs) (e ∷ es) (f ∷ fs) = (c && not (same_bit e f)) ∷ differing cs es fs
