use Rattle.ij_io.proofs.Adding.{at_refusal, words_part}
use Rattle.instruments.specs.Seen.{seen_model, seen_out}
use Rattle.bench_file.specs.Written.{out_text}
use Rattle.table_writer.proofs.definition.put_outs.Goals as goal

pub returns-in_err-put_out-clause-part : goal.returns-in_err-put_out-clause-part
returns-in_err-put_out-clause-part g c =
    at_refusal c.from_residual.result
    (words_part (λ d. out_text (seen_model c.args.m.now) (seen_out d)) c.args.outs.now c.loop-d.d-index
    c.loop-d-test.true c.d-item.is c.loop-d.invariant.so_far c.in_err-put_out.ensures.part)
