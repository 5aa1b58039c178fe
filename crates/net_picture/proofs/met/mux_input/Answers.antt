use Rattle.std.proofs.Common.{sym, ◌∙◌, ap}
use Rattle.std.specs.Prelude.{Some}
use Rattle.net_graph.proofs.Tracing.{source_of_row, source_of_none}
use Rattle.net_picture.proofs.met.mux_input.Goals as goal

pub source_at-requires : goal.source_at-requires
source_at-requires c =
    let found = source_of_row c.args.net.now c.args.holds.now c.args.mux c.in-Some.row c.get.result.now
    c.requires.there c.get.ensures (sym c.in-Some.ensures) in
    found.0

pub returns-in-Some : goal.returns-in-Some
returns-in-Some c =
    let found = source_of_row c.args.net.now c.args.holds.now c.args.mux c.in-Some.row c.get.result.now
    c.requires.there c.get.ensures (sym c.in-Some.ensures) in
    ap Some c.source_at.ensures ∙ sym found.1

pub returns-in-None : goal.returns-in-None
returns-in-None c = sym (source_of_none c.args.net.now c.args.holds.now c.args.mux (sym c.in-None.ensures))
