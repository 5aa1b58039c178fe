use Rattle.std.proofs.Common.{◌<◌, ℕ, List, length, get_or, ap, sym, ◌∙◌, arith}
use Rattle.std.proofs.Math.ListN.{length-set}
use Rattle.instruments.specs.Arrays.{StandFor}
use Rattle.instruments.specs.Machine.{Machine, Run, count_log}
use Rattle.instruments.specs.OnNetwork.{inputs_at, happens}
use Rattle.instruments.specs.Runners.{running_of}
use Rattle.instruments.proofs.Running.{had, turn, all_done, machine_is, shown_is, shown_of, shown_kept}
use Rattle.instruments.proofs.all.run_all.Goals as goal

pub loop-i-preserved : goal.loop-i-preserved
loop-i-preserved c =
    let models = c.args.models.now.items in
    let runners = c.loop-i.runners in
    let i = c.loop-i.i in
    let d = c.index-runners-i.result in
    let new = c.run.new.self in
    let v = c.loop-i.invariant in
    let model : i < length models = omega (arith, c.loop-i-test.true, c.requires.count) in
    let here : i < length runners = omega (arith, model, v.count) in
    record {
      count = length-set runners i new ∙ v.count;
      shown = shown_kept runners i d new here c.run.ensures.inputs ∙ v.shown;
      state = λ net holds run. let was : StandFor (get_or runners i d).inputs (inputs_at net holds i) =
          λ port. ap (λ (x : List ℕ). get_or x port 0) (sym (shown_is runners i d here)
          ∙ shown_of runners c.args.runners.now i v.shown) ∙ run.shown i port in
          turn (had net models Run holds) runners i d new here
          (c.run.ensures.state (inputs_at net holds i) was ∙ ap (λ (m : Machine). happens count_log m Run
          (inputs_at net holds i) (running_of (get_or runners i d)))
          (sym (machine_is models i c.get.result.now model c.get.ensures))) ∙ v.state net holds run;
    }

pub returns-clause-state : goal.returns-clause-state
returns-clause-state c net holds run =
    sym (all_done (had net c.args.models.now.items Run holds) c.loop-i.runners c.loop-i.i
    (omega (arith, c.loop-i-test.false, c.loop-i.invariant.count, c.requires.count)))
    ∙ c.loop-i.invariant.state net holds run
