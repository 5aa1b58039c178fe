use Rattle.std.proofs.Common.{◌≡◌, ◌+◌, ◌-◌}
use Rattle.net_wave.specs.Values.{binary_length}
use Rattle.net_wave.proofs.digits.binary_length.Given as goal

abbrev pub invariant-loop-k : goal.invariant-loop-k
invariant-loop-k l =
    record {
      value : l.digits + binary_length (32 - l._k) l.left ≡ binary_length 32 l.number;
      small : l.digits ≡ l._k;
    }
