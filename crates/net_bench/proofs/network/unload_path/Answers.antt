use Rattle.std.proofs.Common.{◌∙◌, ap, length}
use Rattle.net_bench.proofs.Packing.{unload_turn}
use Rattle.net_bench.proofs.network.unload_path.Goals as goal

pub loop-reg-preserved : goal.loop-reg-preserved
loop-reg-preserved c =
    let turn = unload_turn c.args.path.now c.loop-reg.reg-index c.loop-reg.at c.len-width.result
    c.args.from.now.items c.loop-reg.into c.update_register.new.self
    c.loop-reg-test.true c.loop-reg.invariant.route
    (c.len-width.ensures ∙ ap length c.register.ensures) c.update_register.ensures c.loop-reg.invariant.fits
    in
    record {
      rest = turn.0 ∙ c.loop-reg.invariant.rest;
      route = turn.1;
      fits = turn.2;
    }
