use Rattle.std.proofs.Common.{◌≡◌, map, take}
use Rattle.icl_references.specs.Roles.{seen_cell}
use Rattle.icl_signals.specs.declared.parts.Kind.TheVariants.{Output}
use Rattle.icl_signals.specs.Kinds.{is_of, before}
use Rattle.icl_signals.proofs.numbers.outputs_before.Given as goal

abbrev pub invariant-loop-cell : goal.invariant-loop-cell
invariant-loop-cell l = map (λ row. row.items) l.table.items
    ≡ map (λ c. before (is_of Output) 0 c.parts) (map seen_cell (take l.cell-index l.cells))
