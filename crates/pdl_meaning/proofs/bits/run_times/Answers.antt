use Rattle.std.proofs.Common.{◌≡◌, ◌-◌, ◌+◌, suc, arith, ◌∙◌, sym, ap, length}
use Rattle.std.proofs.lemmas.List.{length-map}
use Rattle.instruments.specs.Runners.{insts_of, machines_of}
use Rattle.pdl_meaning.proofs.Cycles.{one_run, none_left, still_running}
use Rattle.pdl_meaning.proofs.bits.run_times.Goals as goal

pub run_all-requires-clause-count : goal.run_all-requires-clause-count
run_all-requires-clause-count c =
    sym (length-map c.loop.runners (λ r. r.inputs)) ∙ ap length c.loop.invariant.shown
    ∙ length-map c.args.runners.now (λ r. r.inputs) ∙ c.requires.count

pub loop-preserved : goal.loop-preserved
loop-preserved c =
    let models = c.args.models.now.items in
    let left : c.args.cycles - c.loop.counter
    ≡ suc (c.args.cycles - (c.loop.counter + 1)) = omega (arith, c.loop-test.true) in
    record {
      shown = c.run_all.ensures.shown ∙ c.loop.invariant.shown;
      state = λ net holds reads run.
          let now =
          still_running net models holds c.args.runners.now c.loop.runners c.loop.invariant.shown run in
          one_run net (machines_of models) holds reads (insts_of c.loop.runners)
          (insts_of c.run_all.new.runners) _ _ left (c.run_all.ensures.state net holds now)
          ∙ c.loop.invariant.state net holds reads run;
    }

pub returns-clause-state : goal.returns-clause-state
returns-clause-state c net holds reads run =
    let none : c.args.cycles - c.loop.counter ≡ 0 = omega (arith, c.loop-test.false) in
    none_left net (machines_of c.args.models.now.items) holds reads (insts_of c.loop.runners) _ none
    ∙ c.loop.invariant.state net holds reads run
