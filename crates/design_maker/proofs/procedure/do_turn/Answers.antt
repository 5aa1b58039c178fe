use Rattle.std.proofs.Common.{map, set, ap, ◌∙◌}
use Rattle.design_maker.specs.Procedure.{run, written}
use Rattle.design_maker.proofs.Changes.{set_is_change}
use Rattle.design_maker.proofs.procedure.do_turn.Goals as goal

pub returns-clause-state : goal.returns-clause-state
returns-clause-state c =
    let t = c.args.turn.now in
    let xs = c.args.instruments.now.items in
    c.run_all.ensures
    ∙ ap (map (run t.cycles)) (c.set.ensures.items ∙ ap (set xs t.at) c.written-changed.ensures
    ∙ set_is_change (written t.value) xs t.at c.get.result.now c.requires c.get.ensures)
