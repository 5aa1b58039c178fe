use Rattle.std.proofs.Common.{◌+◌, ◌++◌, ℕ, List, map, drop, sym, ap, ◌∙◌, append_assoc}
use Rattle.std.specs.Prelude.{filter, flat_map}
use Rattle.std.specs.List.{enumerate_from}
use Rattle.std.proofs.lemmas.List.Elements.{filter-append}
use Rattle.icl_references.specs.declared.hier.Cell.{Cell}
use Rattle.icl_references.specs.Roles.{seen_cell}
use Rattle.icl_signals.specs.Moves.{Entry, entries_in}
use Rattle.icl_signals.specs.Kinds.{test_of}
use Rattle.icl_signals.specs.TrueEnds.{seen_entry}
use Rattle.ij_bits.proofs.Lists.{split_at}
use Rattle.icl_signals.proofs.entries.entries_of.Goals as goal

pub loop-cell-preserved : goal.loop-cell-preserved
loop-cell-preserved c =
    let items = c.as_slice-cell-items.result.now in
    let i = c.loop-cell.cell-index in
    let n = c.loop-cell.number in
    let of_kind : List Entry → List Entry = filter (λ e. test_of c.args.kind e.what.role) in
    let rest : ℕ → List Cell
    → List Entry = λ m l. of_kind (flat_map entries_in (enumerate_from m (map seen_cell l))) in
    let here = entries_in (n, seen_cell c.cell-item.result) in
    ap (λ l. l ++ rest c.in_ok-number.number (drop (i + 1) items)) c.in_ok-all.ensures
    ∙ ap (λ m. (map seen_entry c.loop-cell.all.items ++ of_kind here)
    ++ rest m (drop (i + 1) items)) c.in_ok-number.ensures
    ∙ append_assoc (map seen_entry c.loop-cell.all.items) (of_kind here) (rest (n + 1) (drop (i + 1) items))
    ∙ ap (λ l. map seen_entry c.loop-cell.all.items ++ l)
    (sym (filter-append (λ e. test_of c.args.kind e.what.role) here
    (flat_map entries_in (enumerate_from (n + 1) (map seen_cell (drop (i + 1) items))))))
    ∙ ap (λ l. map seen_entry c.loop-cell.all.items ++ rest n l)
    (sym (split_at items i c.cell-item.result c.loop-cell-test.true c.cell-item.is))
    ∙ c.loop-cell.invariant
