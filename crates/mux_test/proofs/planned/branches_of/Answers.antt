use Rattle.std.proofs.Common.{◌<◌, length, arith}
use Rattle.mux_test.proofs.Listing.{mux_listed}
use Rattle.mux_test.proofs.planned.branches_of.Goals as goal

pub loop-mux-preserved : goal.loop-mux-preserved
loop-mux-preserved c =
    let within : c.loop-mux.mux < length c.args.net.now.muxes.items =
    omega (arith, c.loop-mux-test.true, c.len-mux-end.ensures) in
    mux_listed c.loop-mux.branches.items c.push_rows.new.branches.items _ c.loop-mux.mux
    c.args.net.now.muxes.items c.get.result.now c.as_slice.result.now within c.get.ensures
    c.as_slice.ensures c.in_ok-push_rows.ensures c.loop-mux.invariant
