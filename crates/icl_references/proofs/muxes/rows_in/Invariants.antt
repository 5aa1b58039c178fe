use Rattle.std.proofs.Common.{◌≡◌, map, drop}
use Rattle.icl_lexer.specs.Views.{seen_row}
use Rattle.icl_declarations.specs.Faults.{each}
use Rattle.icl_declarations.proofs.Each.{more}
use Rattle.icl_references.specs.Muxes.{row_in}
use Rattle.icl_references.specs.Roles.{seen_row as seen_choice}
use Rattle.icl_references.specs.Tables.{frames_of, here_in}
use Rattle.icl_references.proofs.muxes.rows_in.Given as goal

abbrev pub invariant-loop-row : goal.invariant-loop-row
invariant-loop-row l =
    more (row_in (frames_of l.tables) (here_in l.tables l.here) l.at l.width) (map seen_choice l.all.items)
    (map seen_row (drop l.row-index l.rows))
    ≡ each (row_in (frames_of l.tables) (here_in l.tables l.here) l.at l.width) (map seen_row l.rows)
