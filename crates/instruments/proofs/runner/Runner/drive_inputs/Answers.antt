use Rattle.std.proofs.Common.{refl, ap, sym, ◌∙◌, Bool, true, false}
use Rattle.instruments.specs.After.{machine_of}
use Rattle.instruments.specs.Machine.{count_log, Change}
use Rattle.instruments.specs.Seen.{seen_model}
use Rattle.instruments.specs.declared.Counts.{Counts}
use Rattle.instruments.specs.OnNetwork.{Running, happens}
use Rattle.instruments.specs.Runners.{running_of}
use Rattle.instruments.proofs.Running.{state_is, one_change, shown_same, shown_other}
use Rattle.instruments.proofs.runner.Runner.drive_inputs.Goals as goal

pub returns-then-not-same-clause-state : goal.returns-then-not-same-clause-state
returns-then-not-same-clause-state c before after s t l =
    let old = running_of c.args.self.now in
    let machine = machine_of (seen_model c.args.model.now) in
    state_is _ _ _ _ (c.change.ensures before after s t)
    (one_change c.args.self.now.counts _ before after c.saturating_add-self.ensures)
    ∙ ap (λ (b : Bool). elim b as (λ _. Running Counts) [
      | true ↦ old
      | false ↦ happens count_log machine (Change before after) after old
    ])
    (sym (shown_other c.args.self.now.inputs c.args.now.now before after s t c.if-not-same.ensures.each))

pub returns-else-not-same-clause-state : goal.returns-else-not-same-clause-state
returns-else-not-same-clause-state c before after s t l =
    let old = running_of c.args.self.now in
    let machine = machine_of (seen_model c.args.model.now) in
    ap (λ (b : Bool). elim b as (λ _. Running Counts) [
      | true ↦ old
      | false ↦ happens count_log machine (Change before after) after old
    ]) (sym (shown_same
    c.args.self.now.inputs c.args.now.now before after s t l (c.if-not-same.ensures.equal refl)))
