use Rattle.std.proofs.Common.{◌≡◌, ◌++◌, map, drop}
use Rattle.icl_references.specs.Roles.{seen_cell}
use Rattle.icl_signals.specs.Kinds.{numbers_from}
use Rattle.icl_signals.proofs.numbers.parts_of_kind_before.Given as goal

abbrev pub invariant-loop-cell : goal.invariant-loop-cell
invariant-loop-cell l = map (λ row. row.items) l.table.items ++ numbers_from l.kind l.count
    (map seen_cell (drop l.cell-index l.cells)) ≡ numbers_from l.kind 0 (map seen_cell l.cells)
