use Rattle.std.proofs.Common.{◌≡◌, ◌<◌, ◌+◌, suc, length, arith}
use Rattle.net_list.specs.Lines.{selects_in}
use Rattle.net_list.proofs.Pieces.{kept_next, below_next}
use Rattle.net_list.proofs.register.muxes_selected_by.Goals as goal

pub loop-mux-preserved : goal.loop-mux-preserved
loop-mux-preserved c =
    let m = c.loop-mux.mux in
    let next : m + 1 ≡ suc m = omega arith in
    let below : m < length c.args.net.now.muxes.items =
    omega (arith, c.loop-mux-test.true, c.len-mux-end.ensures) in
    record {
      muxes = kept_next (selects_in c.args.net.now c.args.reg) c.loop-mux.muxes.items
          c.push_if_selected.new.muxes.items m (m + 1) c.selects_in.result c.loop-mux.invariant.muxes
          c.in_ok-push_if_selected.ensures c.selects_in.ensures next;
      there = below_next (length c.args.net.now.muxes.items) m c.loop-mux.muxes.items
          c.push_if_selected.new.muxes.items c.selects_in.result below
          c.loop-mux.invariant.there c.in_ok-push_if_selected.ensures;
    }
