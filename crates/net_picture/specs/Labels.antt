-- What is written at registers, multiplexers and rows, and how much room it takes.
use Rattle.std.specs.Prelude.{ℕ, ◌+◌, ◌-◌, ◌*◌, ◌==◌, List, [], ◌∷◌, ◌++◌, codes, cond, decimal, drop, get_or}
use Rattle.std.specs.Prelude.{length, map, max, min, nat_le, take}
use Rattle.net_graph.specs.declared.net.Net.{Net}
use Rattle.net_graph.specs.declared.net.Row.{Row}
use Rattle.net_graph.specs.Named.{width_of}
use Rattle.net_graph.specs.Path.{rows_of}
use Rattle.net_graph.specs.PathNames.{mux_path}
use Rattle.net_list.specs.Drivers.{index_of, register_path}
use Rattle.net_list.specs.Forms.{values_text}

-- the ends of a text, and two dots in place of its middle
unfoldable pub ends_of : List ℕ → List ℕ → List ℕ
ends_of front back = front ++ (codes ".." ++ (back ++ []))

-- a long text is cut in the middle, so that twice h letters and two dots are left
abbrev pub short : ℕ → List ℕ → List ℕ
short h text =
    cond (nat_le (length text) (2 * h + 2)) text (ends_of (take h text) (drop (length text - h) text))

-- a left and a right index in brackets
unfoldable pub range_of : ℕ → ℕ → List ℕ
range_of left right = codes "[" ++ (decimal left ++ (codes ":" ++ (decimal right ++ (codes "]" ++ []))))

-- the left and the right index of a register of several bits
abbrev pub range_text : Net → ℕ → List ℕ
range_text net r =
    range_of (index_of net (record { reg = r; pos = width_of net r - 1 }))
    (index_of net (record { reg = r; pos = 0 }))

abbrev pub range_if : Net → ℕ → List ℕ
range_if net r = cond (width_of net r == 1) [] (range_text net r)

-- the path of a register, with its range
abbrev pub register_label : Net → ℕ → List ℕ
register_label net r = register_path net r ++ range_if net r

-- the select values of row q, none for a row that isn't there
abbrev pub row_values : List Row → ℕ → List ℕ
row_values rows q = get_or (map (λ row. values_text row.values.items) rows) q []

-- how many letters are left of a text of this many
abbrev pub short_length : ℕ → ℕ → ℕ
short_length h letters = min letters (2 * h + 2)

-- what is left of these texts
abbrev pub short_register : Net → ℕ → List ℕ
short_register net r = short 19 (register_label net r)

abbrev pub short_mux : Net → ℕ → List ℕ
short_mux net m = short 9 (mux_path net m)

abbrev pub short_values : Net → ℕ → ℕ → List ℕ
short_values net m q = short 7 (row_values (rows_of net m) q)

-- a box is wide enough for its register's label
abbrev pub box_width : Net → ℕ → ℕ
box_width net r = max 40 (7 * short_length 19 (length (register_label net r)) + 14)

-- the room to the right of a funnel, for its multiplexer's name
abbrev pub name_room : Net → ℕ → ℕ
name_room net m = 6 * short_length 9 (length (mux_path net m)) + 4

-- the room to the left of a funnel, for the select values of each row
abbrev pub row_room : Row → ℕ
row_room row = 6 * short_length 7 (length (values_text row.values.items)) + 10

abbrev pub values_room : List Row → ℕ
values_room [] = 10
values_room (row ∷ rows) = max (row_room row) (values_room rows)
