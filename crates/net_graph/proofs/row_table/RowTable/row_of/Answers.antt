use Rattle.std.proofs.Common.{◌∙◌, sym, true, false}
use Rattle.net_graph.proofs.RowTables.{is_known}
use Rattle.net_graph.proofs.row_table.RowTable.row_of.Goals as goal

pub get-requires : goal.get-requires
get-requires c =
    let k = is_known c.args.net.now c.args.holds.now c.args.mux c.in-Some.known c.self.inside.muxes.items
    c.index.result.now c.requires.well_formed c.requires.holds c.requires.mux
    (c.self.view_is ∙ c.requires.table) c.index.ensures c.in-Some.is in
    k.held

pub returns-then-get : goal.returns-then-get
returns-then-get c =
    let k = is_known c.args.net.now c.args.holds.now c.args.mux c.in-Some.known c.self.inside.muxes.items
    c.index.result.now c.requires.well_formed c.requires.holds c.requires.mux
    (c.self.view_is ∙ c.requires.table) c.index.ensures c.in-Some.is in
    k.one ∙ sym (k.row true (sym c.get.ensures ∙ c.if-get.true))

pub returns-else-get : goal.returns-else-get
returns-else-get c =
    let k = is_known c.args.net.now c.args.holds.now c.args.mux c.in-Some.known c.self.inside.muxes.items
    c.index.result.now c.requires.well_formed c.requires.holds c.requires.mux
    (c.self.view_is ∙ c.requires.table) c.index.ensures c.in-Some.is in
    k.zero ∙ sym (k.row false (sym c.get.ensures ∙ c.if-get.false))
