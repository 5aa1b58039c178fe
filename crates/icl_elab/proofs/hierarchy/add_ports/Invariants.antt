use Rattle.std.proofs.Common.{◌≡◌, ◌++◌, map, drop}
use Rattle.icl_elab.specs.Placing.{ports_from, seen_cell_ports}
use Rattle.icl_elab.specs.SeenCells.{seen_pass}
use Rattle.icl_references.specs.Tables.{frames_of}
use Rattle.icl_elab.proofs.hierarchy.add_ports.Given as goal

abbrev pub invariant-loop-here : goal.invariant-loop-here
invariant-loop-here l =
    map seen_cell_ports l.all.items
    ++ ports_from (seen_pass l.cells) l.here (drop l.here (frames_of l.tables)) (drop l.here l.cells)
    ≡ ports_from (seen_pass l.cells) 0 (frames_of l.tables) l.cells
