use Rattle.std.proofs.Common.{◌≡◌, ◌≤◌, IfOk, sym, ap, ◌∙◌, subst, ℕ, List}
use Rattle.merge_order.specs.BitSteps.{BitStepsOf}
use Rattle.net_graph.specs.SeenSteps.{SeenStep}
use Rattle.pdl_parser.specs.Views.{seen_procs}
use Rattle.pdl_targets.specs.Laws.{rounds_in}
use Rattle.ijtag_work.specs.Using.{seen_accepted}
use Rattle.ijtag_core.proofs.made_rounds.round_count.Goals as goal

pub count_rounds-requires : goal.count_rounds-requires
count_rounds-requires c =
    let it = c.args.it.now in
    let procedure = c.procedure.result.now in
    subst (λ (b : BitStepsOf). rounds_in b.steps ≤ 4096) (sym c.in_ok-steps.ensures)
    (c.bit_steps_are_few.ensures.rounds
    (seen_procs procedure.procs) it.network.net it.network.form procedure.name.items)

pub returns : goal.returns
returns c =
    let same : c.in_ok-steps.steps.steps ≡ (seen_accepted c.args.it.now).steps =
    ap (λ (b : BitStepsOf). b.steps) c.in_ok-steps.ensures ∙ sym c.procedure.ensures.is in
    subst (λ (steps : List SeenStep). IfOk c.count_rounds.result (λ (n : ℕ). n ≡ rounds_in steps))
    same c.count_rounds.ensures
