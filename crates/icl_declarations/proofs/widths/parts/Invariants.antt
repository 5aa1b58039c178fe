use Rattle.std.proofs.Common.{◌≡◌, map, drop}
use Rattle.ij_text.specs.Numbers.{tern_bits}
use Rattle.icl_lexer.specs.Views.{seen_expr}
use Rattle.icl_declarations.specs.Faults.{each}
use Rattle.icl_declarations.specs.Tables.{seen_table}
use Rattle.icl_declarations.specs.Widths.{one_part}
use Rattle.icl_declarations.proofs.Each.{more}
use Rattle.icl_declarations.proofs.widths.parts.Given as goal

abbrev pub invariant-loop-e : goal.invariant-loop-e
invariant-loop-e l = more (one_part (seen_table l.params) l.holder)
    (map tern_bits l.parts.items) (map seen_expr (drop l.e-index l.es))
    ≡ each (one_part (seen_table l.params) l.holder) (map seen_expr l.es)
