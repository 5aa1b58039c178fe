use Rattle.std.proofs.Common.{◌≡◌, ◌∙◌, ap, inr, sym, subst, List, Option}
use Rattle.std.specs.Prelude.{All}
use Rattle.std.proofs.lemmas.Result.{on_ok_weaker, on_err_weaker}
use Rattle.ij_io.specs.Files.{Files}
use Rattle.merge_order.specs.BitSteps.{BitStepsOf}
use Rattle.headline.specs.Rounds.{StepIsPlannable}
use Rattle.net_graph.specs.SeenSteps.{SeenStep}
use Rattle.pdl_parser.specs.Views.{seen_procs}
use Rattle.retargeter.specs.Files.{HoldsScript, HoldsScriptPart}
use Rattle.retargeter.specs.Scripts.{HasScript, ScriptIsRight}
use Rattle.ijtag_work.specs.Accepted.{SeenAccepted}
use Rattle.ijtag_work.specs.Using.{seen_accepted}
use Rattle.ijtag_work.proofs.Filed.{is_filed, part_filed, has_text}
use Rattle.ijtag_work.proofs.Made.{plannable}
use Rattle.ijtag_core.proofs.svf.write_svf.Goals as goal

pub put_svf_file-told-requires-clause-plannable : goal.put_svf_file-told-requires-clause-plannable
put_svf_file-told-requires-clause-plannable g c =
    let network = c.args.it.now.network in
    let nested = c.requires.usable.nested in
    let procedure = c.procedure.result.now in
    subst (λ (b : BitStepsOf). All (StepIsPlannable network.net network.form) b.steps)
    (sym c.in_ok-steps.ensures)
    (plannable c.bit_steps_are_of_the_network.ensures.steps c.bit_steps_are_of_the_network.ensures.paths
    c.procedures_are_plannable.ensures.steps
    (seen_procs procedure.procs) network.net network.form procedure.name.items
    nested.well_formed nested.describes)

pub returns-clause-whole : goal.returns-clause-whole
returns-clause-whole g c =
    let it : SeenAccepted = seen_accepted c.args.it.now in
    let old : Option Files = g.S.Shelf.files c.args.shelf.now in
    let new : Option Files = g.S.Shelf.files c.put_svf_file-told.new.shelf in
    let steps : c.in_ok-steps.steps.steps
    ≡ it.steps = ap (λ (b : BitStepsOf). b.steps) c.in_ok-steps.ensures ∙ sym c.procedure.ensures.is in
    let text : HasScript it.network.net it.network.form it.device it.steps =
    subst (λ (ss : List SeenStep). HasScript it.network.net it.network.form it.device ss)
    steps c.put_svf_file-told.ensures.text in
    let right : ScriptIsRight it.network.net it.network.form it.device it.steps =
    subst (λ (ss : List SeenStep). ScriptIsRight it.network.net it.network.form it.device ss)
    steps c.put_svf_file-told.ensures.right in
    on_ok_weaker c.put_svf_file-told.result
    (λ h. is_filed it text right old new c.args.name.now (subst (λ (ss : List SeenStep). HoldsScript
    it.network.net it.network.form it.device ss old new c.args.name.now) steps h))
    c.put_svf_file-told.ensures.whole

pub returns-clause-part : goal.returns-clause-part
returns-clause-part g c =
    let it : SeenAccepted = seen_accepted c.args.it.now in
    let old : Option Files = g.S.Shelf.files c.args.shelf.now in
    let new : Option Files = g.S.Shelf.files c.put_svf_file-told.new.shelf in
    let steps : c.in_ok-steps.steps.steps
    ≡ it.steps = ap (λ (b : BitStepsOf). b.steps) c.in_ok-steps.ensures ∙ sym c.procedure.ensures.is in
    let text : HasScript it.network.net it.network.form it.device it.steps =
    subst (λ (ss : List SeenStep). HasScript it.network.net it.network.form it.device ss)
    steps c.put_svf_file-told.ensures.text in
    let right : ScriptIsRight it.network.net it.network.form it.device it.steps =
    subst (λ (ss : List SeenStep). ScriptIsRight it.network.net it.network.form it.device ss)
    steps c.put_svf_file-told.ensures.right in
    on_err_weaker c.put_svf_file-told.result
    (λ h. inr (part_filed it text right old new c.args.name.now (subst (λ (ss : List SeenStep).
    HoldsScriptPart it.network.net it.network.form it.device ss old new c.args.name.now) steps h)))
    c.put_svf_file-told.ensures.part

pub returns-clause-text : goal.returns-clause-text
returns-clause-text g c =
    let it : SeenAccepted = seen_accepted c.args.it.now in
    let steps : c.in_ok-steps.steps.steps
    ≡ it.steps = ap (λ (b : BitStepsOf). b.steps) c.in_ok-steps.ensures ∙ sym c.procedure.ensures.is in
    let text : HasScript it.network.net it.network.form it.device it.steps =
    subst (λ (ss : List SeenStep). HasScript it.network.net it.network.form it.device ss)
    steps c.put_svf_file-told.ensures.text in
    let right : ScriptIsRight it.network.net it.network.form it.device it.steps =
    subst (λ (ss : List SeenStep). ScriptIsRight it.network.net it.network.form it.device ss)
    steps c.put_svf_file-told.ensures.right in
    λ failed. has_text it text right
