use Rattle.std.proofs.Common.{◌<◌, ℕ, List, length, get_or, ap, sym, ◌∙◌, arith}
use Rattle.std.proofs.Math.ListN.{length-set}
use Rattle.instruments.specs.Arrays.{StandFor}
use Rattle.instruments.specs.Machine.{Machine, Reset, count_log}
use Rattle.instruments.specs.OnNetwork.{inputs_at, happens}
use Rattle.instruments.specs.Runners.{running_of}
use Rattle.instruments.proofs.Running.{had, turn, machine_is, inputs_are, seen_step}
use Rattle.instruments.proofs.all.reset_all.Goals as goal

pub loop-i-preserved : goal.loop-i-preserved
loop-i-preserved c =
    let net = c.args.net.now in
    let models = c.args.models.now.items in
    let runners = c.loop-i.runners in
    let i = c.loop-i.i in
    let d = c.index-runners-i.result in
    let new = c.reset.new.self in
    let v = c.loop-i.invariant in
    let model : i < length models = omega (arith, c.loop-i-test.true, c.requires.count) in
    let here : i < length runners = omega (arith, model, v.count) in
    let inst : i < length net.insts.items = omega (arith, model, c.requires.models.count) in
    let stand : StandFor c.inputs_of-now.result (inputs_at net c.args.holds.now i) =
    λ port. c.inputs_of-now.ensures port ∙ ap (λ (x : List ℕ). get_or x port 0)
    (sym (inputs_are net c.args.holds.now i c.get.result.now inst c.get.ensures)) in
    let shown : StandFor new.inputs (inputs_at net c.args.holds.now i) =
    λ port. ap (λ (x : List ℕ). get_or x port 0) c.reset.ensures.inputs ∙ stand port in
    record {
      count = length-set runners i new ∙ v.count;
      seen = seen_step net c.args.holds.now runners i new here shown v.seen;
      state = turn (had net models Reset c.args.holds.now) runners i d new here
          (c.reset.ensures.state (inputs_at net c.args.holds.now i) ∙ ap (λ (m : Machine). happens count_log m
          Reset (inputs_at net c.args.holds.now i) (running_of (get_or runners i d)))
          (sym (machine_is models i c.get-in-loop-i.result.now model c.get-in-loop-i.ensures))) ∙ v.state;
    }
