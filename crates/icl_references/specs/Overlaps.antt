-- How overlaps of rows are found: each row is compared with the values of those before it, of which the ones
-- without x are in a table.
use Rattle.std.specs.Prelude.{◌≡◌, ℕ, Bool, true, false, not, ◌&&◌, ◌||◌, List, [], ◌∷◌, ◌++◌, map, filter}
use Rattle.std.specs.Prelude.{length, Option, Some, None, is_some}
use Rattle.std.specs.List.{AllByRecursion, list_all, list_any}
use Rattle.std.specs.Str.{bytes_eq}
use Rattle.ij_text.specs.Numbers.{tern_bits}
use Rattle.icl_declarations.specs.Values.{OpenBits}
use Rattle.icl_declarations.specs.Taken.{has_entry}
use Rattle.icl_references.specs.declared.overlaps.Seen.{Seen}
use Rattle.icl_references.specs.Muxes.{meet}
use Rattle.icl_references.specs.Roles.{Choice}

-- ---- keys

abbrev pub digit : Option Bool → ℕ
digit None = 2
digit (Some true) = 1
digit (Some false) = 0

abbrev pub key_of : OpenBits → List ℕ
key_of bits = map digit bits

abbrev pub is_closed : OpenBits → Bool
is_closed bits = list_all is_some bits

-- a value without x that has this key
abbrev pub has_key : List ℕ → OpenBits → Bool
has_key key u = is_closed u && bytes_eq key (key_of u)

-- ---- what is known of the values up to here

abbrev pub values_of : Seen → List OpenBits
values_of seen = map (λ v. tern_bits v.now) seen.all.items

pub record IsSeen (seen : Seen) : Type 0 where
  pub with_x : map (λ v. tern_bits v.now) seen.with_x.items ≡ filter (λ v. not (is_closed v)) (values_of seen)
  pub closed : (key : List ℕ) → has_entry seen.closed key ≡ list_any (has_key key) (values_of seen)

-- whether one of these values meets one of the others
abbrev pub values_meet : List OpenBits → List OpenBits → Bool
values_meet values row = list_any (λ v. list_any (λ u. meet u v) values) row

-- whether one of these values meets one of a row's, or two of the rows overlap
abbrev pub from_left : List OpenBits → List Choice → Bool
from_left values [] = false
from_left values (r ∷ rows) = values_meet values r.values || from_left (values ++ r.values) rows

-- ---- widths

abbrev pub AreWide : ℕ → List OpenBits → Type 0
AreWide width values = AllByRecursion (λ v. length v ≡ width) values

-- values and a row's of one width
pub record AreAlike (values row : List OpenBits) : Type 0 where
  pub width : ℕ
  pub values_wide : AreWide width values
  pub row_wide : AreWide width row

pub record AreRowsAlike (values : List OpenBits) (rows : List Choice) : Type 0 where
  pub width : ℕ
  pub values_wide : AreWide width values
  pub rows_wide : AllByRecursion (λ r. AreWide width r.values) rows
