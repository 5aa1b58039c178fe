use Rattle.std.proofs.Common.{◌≡◌, drop}
use Rattle.std.specs.List.{list_all}
use Rattle.table_lines.specs.Reading.{texts}
use Rattle.ij_text.specs.Words.{is_name}
use Rattle.table_lines.proofs.said.all_names.Given as goal

abbrev pub invariant-loop-piece : goal.invariant-loop-piece
invariant-loop-piece l = list_all is_name (texts (drop l.piece-index l.pieces))
    ≡ list_all is_name (texts l.pieces)
