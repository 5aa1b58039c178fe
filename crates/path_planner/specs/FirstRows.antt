-- Of some rows the first of each mux.
use Rattle.std.specs.Prelude.{Bool, true, false, List, [], ◌∷◌, ◌++◌, slice_set}
use Rattle.ij_bits.specs.BitLists.{bit}
use Rattle.net_graph.specs.declared.branch.Branch.{Branch}

-- one row, unless its mux is done
abbrev pub first_row : List Bool → Branch → List Branch
first_row done b = elim (bit done b.mux) [ true ↦ [] | false ↦ b ∷ [] ]

-- those of several; at first these muxes are done
abbrev pub first_rows : List Bool → List Branch → List Branch
first_rows done [] = []
first_rows done (b ∷ bs) = first_row done b ++ first_rows (slice_set done b.mux true) bs
