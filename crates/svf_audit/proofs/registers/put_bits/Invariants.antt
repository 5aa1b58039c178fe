use Rattle.std.proofs.Common.{◌≡◌, drop, length, map}
use Rattle.svf_audit.proofs.Moving.{OthersSame}
use Rattle.svf_audit.proofs.registers.put_bits.Given as goal

abbrev pub invariant-loop-bit : goal.invariant-loop-bit
invariant-loop-bit l =
    record {
      shape : map length l.into ≡ map length l.from;
      others : OthersSame l.into l.from (drop l.bit-index l.bits);
    }
