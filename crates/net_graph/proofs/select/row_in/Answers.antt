use Rattle.std.proofs.Common.{◌≡◌, ◌∙◌, List, length, ap, sym, subst}
use Rattle.std.specs.Prelude.{All, map}
use Rattle.ij_bits.specs.BitLists.{bits_of}
use Rattle.net_graph.specs.declared.net.BitId.{BitId}
use Rattle.net_graph.specs.Path.{row_from}
use Rattle.net_graph.specs.Signals.{hold_at}
use Rattle.net_graph.proofs.select.row_in.Goals as goal

pub row_by_number-requires-clause-wide : goal.row_by_number-requires-clause-wide
row_by_number-requires-clause-wide c =
    subst (λ w. All (λ row. All (λ v. length v.value.items ≡ w) row.values.items) c.args.mux.now.rows.items)
    (sym c.len-width.ensures) c.requires.wide

pub returns-then-width-le64 : goal.returns-then-width-le64
returns-then-width-le64 c =
    let select = c.args.mux.now.select.items in
    let rows = c.args.mux.now.rows.items in
    let number = c.held_number-number.result in
    let held : bits_of (length select) number ≡ map (hold_at c.args.holds.now) select =
    subst (λ (s : List BitId). bits_of (length s) number ≡ map (hold_at c.args.holds.now) s)
    c.as_slice.ensures c.held_number-number.ensures in
    c.row_by_number.ensures ∙ ap (λ w. row_from 0 rows (bits_of w number)) c.len-width.ensures
    ∙ ap (row_from 0 rows) held
