use Rattle.std.proofs.Common.{sym, ◌∙◌}
use Rattle.mux_test.proofs.StuckPaths.{selected}
use Rattle.mux_test.proofs.stuck.is_passed.Goals as goal

pub have_same_source-requires-clause-a : goal.have_same_source-requires-clause-a
have_same_source-requires-clause-a c =
    let found = selected c.args.net.now c.args.holds.now c.args.row.mux c.in-Some.now
    c.requires.row.mux (sym c.in-Some.ensures) in
    found.there

pub returns-in-Some : goal.returns-in-Some
returns-in-Some c t =
    let found = selected c.args.net.now c.args.holds.now c.args.row.mux c.in-Some.now
    c.requires.row.mux (sym c.in-Some.ensures) in
    found.source ∙ c.have_same_source.ensures t
