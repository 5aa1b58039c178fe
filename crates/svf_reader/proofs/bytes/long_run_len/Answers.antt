use Rattle.std.proofs.Common.{arith, ap, false}
use Rattle.svf_reader.specs.Reading.{run_length}
use Rattle.svf_reader.proofs.bytes.long_run_len.Goals as goal

pub returns-clause-value : goal.returns-clause-value
returns-clause-value c =
    let back = ap (run_length c.args.class false) c.split_at.ensures.back in
    omega (
      arith,
      back,
      c.after_blocks-blocks.ensures.value,
      c.after_blocks-blocks.ensures.within,
      c.passed_len-n.ensures.value,
      c.passed_len-n.ensures.within,
      c.split_at.ensures.back_len,
      c.short_run_len.ensures.value,
    )
