-- The parameters of a table.
use Rattle.std.specs.Prelude.{List, map}
use Rattle.icl_declarations.specs.declared.params.ParamTable.{ParamTable}
use Rattle.icl_declarations.specs.Values.{Given, seen_value}

abbrev pub seen_table : ParamTable → List Given
seen_table t = map (λ e. record { name = e.0.items; value = seen_value e.1 }) t.table.entries
