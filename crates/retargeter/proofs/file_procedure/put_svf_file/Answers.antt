use Rattle.retargeter.proofs.Scripts.{has_script, script_is_right}
use Rattle.retargeter.proofs.file_procedure.put_svf_file.Goals as goal

pub returns-clause-text : goal.returns-clause-text
returns-clause-text g c = has_script c.args.net.now c.args.tree.now c.args.device.now
    c.args.steps.now.steps c.requires.network c.requires.plannable

pub returns-clause-right : goal.returns-clause-right
returns-clause-right g c =
    script_is_right c.args.net.now c.args.tree.now c.args.device.now c.args.steps.now.steps
    c.planned_steps_law.ensures.right c.requires.network c.requires.device c.requires.few
