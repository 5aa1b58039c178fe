use Rattle.ij_io.proofs.Adding.{at_refusal, words_part}
use Rattle.ijtag_stages.specs.Refusals.{arg_text}
use Rattle.ijtag_stages.specs.Seen.{seen_arg}
use Rattle.ijtag_stages.proofs.refusal.put_args.Goals as goal

pub returns-in_err-put_arg-clause-part : goal.returns-in_err-put_arg-clause-part
returns-in_err-put_arg-clause-part g c =
    at_refusal c.from_residual.result
    (words_part (λ arg. arg_text (seen_arg arg)) c.args.args.now c.loop-arg.arg-index c.loop-arg-test.true
    c.arg-item.is c.loop-arg.invariant.so_far c.in_err-put_arg.ensures.part)
