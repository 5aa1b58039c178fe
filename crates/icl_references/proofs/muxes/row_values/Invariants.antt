use Rattle.std.proofs.Common.{◌≡◌, map, drop}
use Rattle.ij_text.specs.Numbers.{tern_bits}
use Rattle.icl_lexer.specs.Views.{seen_expr, seen_few}
use Rattle.icl_declarations.specs.Faults.{each}
use Rattle.icl_declarations.specs.Widths.{value_in}
use Rattle.icl_declarations.proofs.Each.{more}
use Rattle.icl_references.specs.Tables.{here_in}
use Rattle.icl_references.proofs.muxes.row_values.Given as goal

abbrev pub invariant-loop-value : goal.invariant-loop-value
invariant-loop-value l =
    more (value_in (here_in l.tables l.here).frame.params l.at l.width) (map tern_bits l.all.items)
    (map (seen_few seen_expr) (drop l.value-index l.values))
    ≡ each (value_in (here_in l.tables l.here).frame.params l.at l.width) (map (seen_few seen_expr) l.values)
