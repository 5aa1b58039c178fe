-- What a table says of each mux: where one bit selects, the rows at both of its values.
use Rattle.std.specs.Prelude.{◌≡◌, List, [], ◌∷◌, Option, Some, None, true, false, map}
use Rattle.net_graph.specs.declared.net.BitId.{BitId}
use Rattle.net_graph.specs.declared.net.Mux.{Mux}
use Rattle.net_graph.specs.declared.net.Net.{Net}
use Rattle.net_graph.specs.declared.net.Row.{Row}
use Rattle.net_graph.specs.declared.row_table.OneBit.{OneBit}
use Rattle.net_graph.specs.Path.{row_from}

-- the one select bit of a mux, and its rows
abbrev pub one_bit_of : List Row → List BitId → Option OneBit
one_bit_of rows [] = None
one_bit_of rows (bit ∷ []) =
    Some (record { bit = bit; zero = row_from 0 rows (false ∷ []); one = row_from 0 rows (true ∷ []) })
one_bit_of rows (bit ∷ other ∷ bits) = None

abbrev pub mux_rows : Mux → Option OneBit
mux_rows mux = one_bit_of mux.rows.items mux.select.items

-- the table of a network
abbrev pub AreRows : Net → List (Option OneBit) → Type 0
AreRows net table = table ≡ map mux_rows net.muxes.items
