use Rattle.ij_io.proofs.Adding.{at_refusal}
use Rattle.retargeter.proofs.Scripts.{script_written, script_part, preface_part, nothing_written}
use Rattle.retargeter.proofs.procedure.put_script.Goals as goal

pub returns-in_err-session-clause-part : goal.returns-in_err-session-clause-part
returns-in_err-session-clause-part g c =
    at_refusal _ (nothing_written c.args.net.now c.args.tree.now c.args.device.now c.args.steps.now.steps
    (g.K.Sink.taken c.args.k.now))

pub returns-in_err-put_preface-clause-part : goal.returns-in_err-put_preface-clause-part
returns-in_err-put_preface-clause-part g c =
    at_refusal _ (preface_part c.args.net.now c.args.tree.now c.args.device.now c.args.steps.now.steps
    (g.K.Sink.taken c.args.k.now) (g.K.Sink.taken c.put_preface.new.k) c.in_err-put_preface.ensures.part)

pub returns-in_err-put_steps-clause-part : goal.returns-in_err-put_steps-clause-part
returns-in_err-put_steps-clause-part g c =
    at_refusal _ (script_part c.args.net.now c.args.tree.now c.args.device.now c.args.steps.now.steps
    c.in_ok-session.session (g.K.Sink.taken c.args.k.now) (g.K.Sink.taken c.put_preface.new.k)
    (g.K.Sink.taken c.put_steps.new.k) c.in_ok-session.ensures
    c.in_ok-put_preface.ensures.whole c.in_err-put_steps.ensures.part)

pub returns-clause-whole : goal.returns-clause-whole
returns-clause-whole g c =
    script_written c.args.net.now c.args.tree.now c.args.device.now c.args.steps.now.steps
    c.in_ok-session.session (g.K.Sink.taken c.args.k.now) (g.K.Sink.taken c.put_preface.new.k)
    (g.K.Sink.taken c.put_steps.new.k) c.in_ok-session.ensures
    c.in_ok-put_preface.ensures.whole c.in_ok-put_steps.ensures.whole
