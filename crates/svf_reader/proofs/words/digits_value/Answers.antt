use Rattle.std.proofs.Common.{arith}
use Rattle.svf_reader.proofs.Digits.{hex_up_to}
use Rattle.svf_reader.proofs.words.digits_value.Goals as goal

pub overflow_mul-n : goal.overflow_mul-n
overflow_mul-n c = omega (arith, hex_up_to c.loop-b.b-index 10 (omega arith), c.loop-b.invariant.fits)

pub overflow_add-n : goal.overflow_add-n
overflow_add-n c = omega (arith, hex_up_to c.loop-b.b-index 10 (omega arith), c.loop-b.invariant.fits)

pub returns-clause-fits : goal.returns-clause-fits
returns-clause-fits c = omega (arith, hex_up_to c.loop-b.b-index 10 (omega arith), c.loop-b.invariant.fits)
