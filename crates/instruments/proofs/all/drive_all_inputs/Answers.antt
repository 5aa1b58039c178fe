use Rattle.std.proofs.Common.{◌<◌, ◌≢◌, ℕ, List, length, get_or, ap, sym, ◌∙◌, arith}
use Rattle.std.proofs.Math.ListN.{length-set}
use Rattle.instruments.specs.Arrays.{StandFor}
use Rattle.instruments.specs.Machine.{Machine, count_log}
use Rattle.instruments.specs.OnNetwork.{inputs_at, change_of}
use Rattle.instruments.specs.Runners.{running_of}
use Rattle.instruments.proofs.Running.{changed, turn, all_done, machine_is, inputs_are, as_many_inputs}
use Rattle.instruments.proofs.Running.{shown_is, shown_other_one, seen_step}
use Rattle.instruments.proofs.all.drive_all_inputs.Goals as goal

pub loop-i-preserved : goal.loop-i-preserved
loop-i-preserved c =
    let net = c.args.net.now in
    let models = c.args.models.now.items in
    let runners = c.loop-i.runners in
    let i = c.loop-i.i in
    let d = c.index-runners-i.result in
    let new = c.drive_inputs.new.self in
    let v = c.loop-i.invariant in
    let model : i < length models = omega (arith, c.loop-i-test.true, c.requires.count) in
    let here : i < length runners = omega (arith, model, v.count) in
    let inst : i < length net.insts.items = omega (arith, model, c.requires.models.count) in
    let stand : StandFor c.inputs_of-now.result (inputs_at net c.args.holds.now i) =
    λ port. c.inputs_of-now.ensures port ∙ ap (λ (x : List ℕ). get_or x port 0)
    (sym (inputs_are net c.args.holds.now i c.get.result.now inst c.get.ensures)) in
    let shown : StandFor new.inputs (inputs_at net c.args.holds.now i) =
    λ port. ap (λ (x : List ℕ). get_or x port 0) c.drive_inputs.ensures.inputs ∙ stand port in
    record {
      count = length-set runners i new ∙ v.count;
      seen = seen_step net c.args.holds.now runners i new here shown v.seen;
      rest = λ k from. let apart : k ≢ i = omega (arith, from) in
          shown_other_one runners i k new apart ∙ v.rest k (omega (arith, from));
      state = λ before run. let was : StandFor (get_or runners i d).inputs (inputs_at net before i) =
          λ port. ap (λ (x : List ℕ). get_or x port 0)
          (sym (shown_is runners i d here) ∙ v.rest i (omega arith)) ∙ run.shown i port in
          let step = c.drive_inputs.ensures.state (inputs_at net before i)
          (inputs_at net c.args.holds.now i) was stand (as_many_inputs net before c.args.holds.now i) in
          turn (changed net models before c.args.holds.now) runners i d new here
          (step ∙ ap (λ (m : Machine). change_of count_log m (inputs_at net before i)
          (inputs_at net c.args.holds.now i) (running_of (get_or runners i d)))
          (sym (machine_is models i c.get-in-loop-i.result.now model c.get-in-loop-i.ensures)))
          ∙ v.state before run;
    }

pub returns-clause-state : goal.returns-clause-state
returns-clause-state c before run =
    sym (all_done (changed c.args.net.now c.args.models.now.items before c.args.holds.now) c.loop-i.runners
    c.loop-i.i (omega (arith, c.loop-i-test.false, c.loop-i.invariant.count, c.requires.count)))
    ∙ c.loop-i.invariant.state before run
