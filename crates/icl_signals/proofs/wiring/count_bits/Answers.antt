use Rattle.std.proofs.Common.{◌≡◌, map, drop, ap, ◌∙◌, arith}
use Rattle.std.proofs.lemmas.List.{drop_all}
use Rattle.icl_references.specs.Roles.{seen_cell}
use Rattle.icl_signals.proofs.SignalBits.{bits_of_cells, bits_are}
use Rattle.icl_signals.proofs.wiring.count_bits.Goals as goal

pub returns : goal.returns
returns c =
    let cells = c.args.cells.now in
    let all : bits_of_cells (map seen_cell (drop c.loop-cell.cell-index cells))
    ≡ 0 = ap (λ l. bits_of_cells (map seen_cell l))
    (drop_all c.loop-cell.cell-index cells c.loop-cell-test.false) in
    let sum : c.loop-cell.sum ≡ bits_of_cells (map seen_cell cells) =
    omega (arith, all, c.loop-cell.invariant) in
    sum ∙ bits_are (map seen_cell cells)
