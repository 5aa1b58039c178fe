use Rattle.ij_io.proofs.Adding.{at_refusal, words_part}
use Rattle.instruments.specs.Seen.{seen_port}
use Rattle.bench_file.specs.Written.{input_text}
use Rattle.table_writer.proofs.definition.put_inputs.Goals as goal

pub returns-in_err-put_input-clause-part : goal.returns-in_err-put_input-clause-part
returns-in_err-put_input-clause-part g c =
    at_refusal c.from_residual.result
    (words_part (λ d. input_text (seen_port d)) c.args.ins.now c.loop-d.d-index c.loop-d-test.true
    c.d-item.is c.loop-d.invariant.so_far c.in_err-put_input.ensures.part)
