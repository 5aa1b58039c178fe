use Rattle.std.proofs.Common.{◌≡◌, drop}
use Rattle.ij_bits.specs.BitLists.{bits_of}
use Rattle.net_graph.specs.Path.{row_from}
use Rattle.net_graph.proofs.select.row_by_number.Given as goal

abbrev pub invariant-loop-row : goal.invariant-loop-row
invariant-loop-row l =
    row_from l.row (drop l.row l.mux.rows.items) (bits_of l.width l.number)
    ≡ row_from 0 l.mux.rows.items (bits_of l.width l.number)
