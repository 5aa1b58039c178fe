use Rattle.std.proofs.Common.{◌≡◌, drop}
use Rattle.ij_bits.specs.BitLists.{bits_of}
use Rattle.net_graph.specs.Signals.{some_matches}
use Rattle.net_graph.proofs.select.lists_some_number.Given as goal

abbrev pub invariant-loop-value : goal.invariant-loop-value
invariant-loop-value l =
    some_matches (drop l.value-index l.value-items) (bits_of l.width l.number)
    ≡ some_matches l.row.values.items (bits_of l.width l.number)
