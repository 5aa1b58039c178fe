use Rattle.std.specs.Prelude.{codes}
use Rattle.ij_io.proofs.Adding.{at_refusal, adds_front, adds_then_part}
use Rattle.ijtag_stages.proofs.refusal.put_after.Goals as goal

pub returns-in_err-put_args-clause-part : goal.returns-in_err-put_args-clause-part
returns-in_err-put_args-clause-part g c =
    at_refusal c.from_residual.result (adds_front (codes "\n") c.in_err-put_args.ensures.part)

pub returns-in_err-write-clause-part : goal.returns-in_err-write-clause-part
returns-in_err-write-clause-part g c = at_refusal c.from_residual-in_err-write.result
    (adds_then_part c.in_ok-put_args.ensures.whole c.in_err-write.ensures.part)
