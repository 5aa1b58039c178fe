use Rattle.std.proofs.Common.{arith, subst, sym}
use Rattle.pdl_targets.specs.Rows.{AreMuxSets}
use Rattle.pdl_targets.proofs.Tables.{grown_at, row_put}
use Rattle.pdl_targets.proofs.rows.put.Goals as goal

pub add-requires : goal.add-requires
add-requires c =
    subst (AreMuxSets c.args.stamp) (sym (grown_at c.args.muxes.now.items c.grow.new.muxes.items
    c.args.branch.mux c.index_mut-rounds.result.now (omega (arith, c.in_ok-grow.ensures.long))
    c.in_ok-grow.ensures.same c.index_mut-rounds.ensures.value))
    (c.requires c.args.branch.mux)

pub returns-clause-put : goal.returns-clause-put
returns-clause-put c =
    row_put c.args.stamp c.args.muxes.now.items c.grow.new.muxes.items c.args.branch.mux c.args.branch.row
    c.args.round c.index_mut-rounds.result.now c.add.new.self
    (omega (arith, c.in_ok-grow.ensures.long)) c.in_ok-grow.ensures.same
    c.index_mut-rounds.ensures.value c.in_ok-add.ensures.put
