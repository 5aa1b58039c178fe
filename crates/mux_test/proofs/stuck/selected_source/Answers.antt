use Rattle.std.proofs.Common.{sym, ◌∙◌}
use Rattle.net_graph.proofs.Tracing.{source_of_none}
use Rattle.mux_test.proofs.StuckPaths.{selected}
use Rattle.mux_test.proofs.stuck.selected_source.Goals as goal

pub row_source-requires : goal.row_source-requires
row_source-requires c =
    let found = selected c.args.net.now c.args.holds.now c.args.mux c.in-Some.row
    c.requires.mux (sym c.in-Some.ensures) in
    found.there

pub returns-in-Some : goal.returns-in-Some
returns-in-Some c =
    let found = selected c.args.net.now c.args.holds.now c.args.mux c.in-Some.row
    c.requires.mux (sym c.in-Some.ensures) in
    c.row_source.ensures ∙ sym found.source

pub returns-in-None : goal.returns-in-None
returns-in-None c = sym (source_of_none c.args.net.now c.args.holds.now c.args.mux (sym c.in-None.ensures))
