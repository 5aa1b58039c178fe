use Rattle.std.proofs.Common.{◌<◌, ◌+◌, length, set, arith, ap, ◌∙◌, length-set}
use Rattle.design_maker.specs.Procedure.{run}
use Rattle.design_maker.proofs.Changes.{one_changed}
use Rattle.design_maker.proofs.procedure.run_all.Goals as goal

pub loop-i-preserved : goal.loop-i-preserved
loop-i-preserved c =
    let xs = c.args.instruments.now.items in
    let before = c.loop-i.instruments.items in
    let i = c.loop-i.i in
    let x = c.get.result.now in
    let within : i < length xs = omega (arith, c.loop-i-test.true, c.len-i-end.ensures) in
    record {
      items = c.set.ensures.items ∙ ap (set before i) c.run.ensures ∙ one_changed (run c.args.cycles) xs i
          (i + 1) x within (omega arith) before c.loop-i.invariant.items c.get.ensures;
      count = ap length c.set.ensures.items ∙ length-set before i c.run.result ∙ c.loop-i.invariant.count;
    }
