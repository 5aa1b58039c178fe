use Rattle.std.proofs.Common.{◌<◌, ℕ, List, length, get_or, ap, sym, ◌∙◌, arith}
use Rattle.std.proofs.Math.ListN.{length-set}
use Rattle.instruments.specs.Arrays.{StandFor}
use Rattle.instruments.specs.OnNetwork.{inputs_at}
use Rattle.instruments.specs.declared.runner.Runner.{Runner}
use Rattle.instruments.proofs.Running.{inputs_are, seen_step, insts_kept}
use Rattle.instruments.proofs.all.note_all_inputs.Goals as goal

pub loop-i-preserved : goal.loop-i-preserved
loop-i-preserved c =
    let net = c.args.net.now in
    let holds = c.args.holds.now in
    let runners = c.loop-i.runners in
    let i = c.loop-i.i in
    let d = c.index-runners-i.result in
    let v = c.loop-i.invariant in
    let new : Runner = record {
      machine =
          (get_or runners i d).machine;
      inputs = c.inputs_of.result;
      counts = (get_or runners i d).counts;
    } in
    let here : i < length runners = omega (arith, c.loop-i-test.true, v.count) in
    let inst : i < length net.insts.items = omega (arith, c.loop-i-test.true, c.requires.count) in
    let stand : StandFor c.inputs_of.result (inputs_at net holds i) =
    λ port. c.inputs_of.ensures port ∙ ap (λ (x : List ℕ). get_or x port 0)
    (sym (inputs_are net holds i c.get.result.now inst c.get.ensures)) in
    record {
      count = length-set runners i new ∙ v.count;
      state = insts_kept runners i d c.inputs_of.result here ∙ v.state;
      seen = seen_step net holds runners i new here stand v.seen;
    }
