use Rattle.std.proofs.Common.{◌≤◌, ◌-◌}
use Rattle.ij_io.proofs.Fronts.{AddsFront}
use Rattle.report.specs.Numbers.{lowest_digits}
use Rattle.report.proofs.number.put_hex_number.Given as goal

abbrev pub invariant-loop-j : goal.invariant-loop-j
invariant-loop-j g l = record {
  front : AddsFront (g.K.Sink.taken l.fn.k) (g.K.Sink.taken l.k)
      (lowest_digits l.number (l.digits - l.j)) (lowest_digits l.number l.digits);
  later : g.K.Sink.faults l.fn.k ≤ g.K.Sink.faults l.k;
}
