-- Ranges (IEEE 1687-2014, ICL): the indices that a declaration has, and the positions that a reference names.
-- Position 0 is the right index.
use Rattle.std.specs.Prelude.{ℕ, ◌+◌, ◌-◌, nat_lt, nat_le, Bool, ◌&&◌, ◌||◌, cond, List, Option, Some, None}
use Rattle.std.specs.Prelude.{Ok, Err}
use Rattle.std.specs.List.{range_with_len}
use Rattle.ij_text.specs.declared.Place.{Place}
use Rattle.ij_text.specs.declared.Which.TheVariants.{Width}
use Rattle.icl_lexer.specs.Values.{SeenExpr, SeenRange}
use Rattle.icl_declarations.specs.declared.ranges.Bounds.{Bounds}
use Rattle.icl_declarations.specs.declared.ranges.Stretch.{Stretch}
use Rattle.icl_declarations.specs.Faults.{Answer, ◌>>=◌, BadRange, Limit}
use Rattle.icl_declarations.specs.Values.{Params}
use Rattle.icl_declarations.specs.Expressions.{integer}

-- one bit of index 0
abbrev pub one_bit : Bounds
one_bit = record { left = 0; right = 0 }

abbrev pub width : Bounds → ℕ
width b = (b.left - b.right) + (b.right - b.left) + 1

-- an index is one of these
abbrev pub has_index : Bounds → ℕ → Bool
has_index b i = (nat_le b.right i && nat_le i b.left) || (nat_le b.left i && nat_le i b.right)

abbrev pub position_of : Bounds → ℕ → ℕ
position_of b i = (i - b.right) + (b.right - i)

-- ---- what a range says

abbrev pub right_end : Params → Place → ℕ → Option SeenExpr → Answer ℕ
right_end ps at left None = Ok left
right_end ps at left (Some e) = integer ps at e

-- its two indices; `[i]` is from i to i
unfoldable pub indices : Params → SeenRange → Answer Bounds
indices ps r = do
  left ← integer ps r.at r.left
  right ← right_end ps r.at left r.right
  Ok (record { left = left; right = right })

-- the range of a declaration has at most 65,536 indices
abbrev pub check_width : Bounds → Answer Bounds
check_width b = cond (nat_lt 65536 (width b)) (Err (Limit Width 65536)) (Ok b)

abbrev pub declared : Params → Option SeenRange → Answer Bounds
declared ps None = Ok one_bit
declared ps (Some r) = indices ps r >>= check_width

-- ---- what a reference names

abbrev pub whole : Bounds → Stretch
whole b = record { low = 0; high = width b - 1 }

abbrev pub positions : Stretch → List ℕ
positions s = range_with_len s.low (s.high + 1 - s.low)

-- a slice runs as its declaration does
abbrev pub runs_along : Bounds → Bounds → Bool
runs_along b i = has_index b i.left && has_index b i.right && nat_le
    (position_of b i.right) (position_of b i.left)

abbrev pub position_range : Place → Bounds → Bounds → Answer Stretch
position_range at b i = cond (runs_along b i)
    (Ok (record { low = position_of b i.right; high = position_of b i.left })) (Err (BadRange at))

-- the positions that a reference with this range names, and all without a range
abbrev pub named_positions : Params → Bounds → Option SeenRange → Answer Stretch
named_positions ps b None = Ok (whole b)
named_positions ps b (Some r) = indices ps r >>= position_range r.at b
