use Rattle.std.proofs.Common.{◌≡◌, drop}
use Rattle.std.specs.Prelude.{flat_map}
use Rattle.net_graph.specs.Path.{select_bits}
use Rattle.nest_check.specs.Uses.{HaveFlags, no_flags, note_select_bits, selected_of}
use Rattle.nest_check.proofs.uses.selecting_bits.Given as goal

abbrev pub invariant-loop-mux : goal.invariant-loop-mux
invariant-loop-mux l =
    HaveFlags l.net (selected_of l.selecting)
    × (note_select_bits (selected_of l.selecting) (flat_map (λ mux. mux.select.items) (drop l.mux-index
    l.mux-items))
    ≡ note_select_bits (no_flags l.net) (select_bits l.net))
