-- The rows around registers or around muxes, in a table.
use Rattle.std.specs.Prelude.{◌≡◌, ◌<◌, ◌≤◌, ℕ, List, [], length, map, slice_index_or, All, Option, Some}
use Rattle.std.specs.Prelude.{None}
use Rattle.net_graph.specs.declared.branch.Branch.{Branch}
use Rattle.net_graph.specs.declared.net.Point.{Point}
use Rattle.net_tree.specs.declared.entry.Entry.{Entry}
use Rattle.net_tree.specs.Seeking.{branch_of, seek, start}
use Rattle.smallvec.specs.SmallVec.{SmallVec}

abbrev pub known_at : List (Option (SmallVec Branch)) → ℕ → Option (SmallVec Branch)
known_at table r = slice_index_or table r None

-- the rows that are known, or else those that are found later
abbrev pub known_or : Option (SmallVec Branch) → List Branch → List Branch
known_or None later = later
known_or (Some place) later = place.items

abbrev pub IsShort : Option (SmallVec Branch) → Type 0
IsShort None = Unit {0}
IsShort (Some place) = length place.items ≤ 16

-- what is known of each item of a kind in the table is what is found in the entries
abbrev pub AreKnown : (ℕ → Point) → List Entry → List (Option (SmallVec Branch)) → Type 0
AreKnown kind entries table =
    All IsShort table
    × ((i : ℕ) → i < length table
    → known_or (known_at table i) [] ≡ map branch_of (seek 0 entries start (kind i)))
