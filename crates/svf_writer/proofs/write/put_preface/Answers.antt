use Rattle.svf_writer.specs.Written.{texts_of, preface_commands}
use Rattle.ij_io.proofs.Adding.{adds_both, adds_front, adds_then_part, at_refusal}
use Rattle.svf_writer.proofs.write.put_preface.Goals as goal

pub returns-in_err-write-clause-part : goal.returns-in_err-write-clause-part
returns-in_err-write-clause-part g c =
    at_refusal c.from_residual.result
    (adds_front (texts_of (preface_commands c.args.device.now)) c.in_err-write.ensures.part)

pub returns-in_err-put_reset-clause-part : goal.returns-in_err-put_reset-clause-part
returns-in_err-put_reset-clause-part g c =
    at_refusal c.from_residual-in_err-put_reset.result
    (adds_then_part c.in_ok-write.ensures.whole c.in_err-put_reset.ensures.part)

pub returns-clause-whole : goal.returns-clause-whole
returns-clause-whole g c = adds_both c.in_ok-write.ensures.whole c.in_ok-put_reset.ensures.whole
