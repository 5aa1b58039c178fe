-- Where things stand, in units of the view: x to the right, y downwards. A register's box is 26 high, a wire
-- between two things 18 long.
use Rattle.std.specs.Prelude.{ℕ, ◌+◌, Bool, cond, max, nat_le}
use Rattle.net_picture.specs.declared.pen.Pen.{Pen}
use Rattle.net_picture.specs.declared.pen.Fan.{Fan}

-- a list of items begins
abbrev pub start_at : ℕ → ℕ → Pen
start_at x y = record { left = x; x = x; y = y; right = x; bottom = y + 16 }

-- a line that is at least 1000 wide takes no more items
abbrev pub is_full : Pen → Bool
is_full p = nat_le (p.left + 1000) p.x

-- the next line begins below all of this one
abbrev pub next_line : Pen → Pen
next_line p = record {
  left = p.left;
  x = p.left;
  y = p.bottom + 30;
  right = max p.right (p.x + 9);
  bottom = p.bottom + 46;
}

-- where the next item's wire begins
abbrev pub next_wire_start : Pen → Pen
next_wire_start p = cond (is_full p) (next_line p) p

-- an item ends at x, and reaches down to bottom
abbrev pub moved : Pen → ℕ → ℕ → Pen
moved p x bottom =
    record { left = p.left; x = x; y = p.y; right = max p.right x; bottom = max p.bottom bottom }

-- a register comes after its wire
abbrev pub after_register : Pen → ℕ → Pen
after_register p width = moved p (p.x + 18 + width) p.bottom

-- the rows of a multiplexer begin to the right of the place where they part
abbrev pub fan_at : Pen → Fan
fan_at p = record { x = p.x + 34; y = p.y; right = p.x + 34; last = p.y; bottom = p.bottom }

-- the next row begins below all of this one
abbrev pub after_row : Fan → Pen → Fan
after_row f p =
    record { x = f.x; y = p.bottom + 24; right = max f.right p.right; last = p.y; bottom = p.bottom }

-- the funnel is to the right of all rows and their select values; it is 14 wide
abbrev pub funnel_at : Fan → ℕ → ℕ
funnel_at f values = f.right + values

abbrev pub after_mux : Pen → Fan → ℕ → ℕ → Pen
after_mux p f values name = moved p (funnel_at f values + 14 + name) f.bottom
