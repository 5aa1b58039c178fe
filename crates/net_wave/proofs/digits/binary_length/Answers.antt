use Rattle.std.proofs.Common.{arith}
use Rattle.net_wave.specs.Values.{binary_length}
use Rattle.net_wave.proofs.DigitSteps.{length_ends, length_next}
use Rattle.net_wave.proofs.digits.binary_length.Goals as goal

pub returns-then-left-eq0-clause-length : goal.returns-then-left-eq0-clause-length
returns-then-left-eq0-clause-length c = length_ends (binary_length 32 c.args.number) c.loop-k._k c.loop-k.left
    c.loop-k.digits c.if-left-eq0.true c.loop-k.invariant.value

pub loop-k-preserved : goal.loop-k-preserved
loop-k-preserved c =
    record {
      value = length_next (binary_length 32 c.args.number) c.loop-k._k c.loop-k.left c.loop-k.digits
          c.loop-k-test.true c.if-left-eq0.false c.loop-k.invariant.value;
      small = omega (arith, c.loop-k.invariant.small);
    }
