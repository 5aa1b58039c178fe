use Rattle.std.proofs.Common.{◌≡◌, take}
use Rattle.std.specs.Prelude.{map}
use Rattle.net_graph.specs.RowTables.{mux_rows}
use Rattle.net_graph.proofs.row_table.RowTable.new.Given as goal

abbrev pub invariant-loop-mux : goal.invariant-loop-mux
invariant-loop-mux l = l.muxes.items ≡ map mux_rows (take l.mux-index l.mux-items)
