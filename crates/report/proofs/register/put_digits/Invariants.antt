use Rattle.std.proofs.Common.{◌≤◌, ◌-◌}
use Rattle.ij_io.proofs.Fronts.{AddsFront}
use Rattle.report.specs.Registers.{register_digits}
use Rattle.report.proofs.register.put_digits.Given as goal

abbrev pub invariant-loop-j : goal.invariant-loop-j
invariant-loop-j g l = record {
  front : AddsFront (g.K.Sink.taken l.fn.k) (g.K.Sink.taken l.k)
      (register_digits l.net l.holds l.reg (l.width - l.j)) (register_digits l.net l.holds l.reg l.width);
  later : g.K.Sink.faults l.fn.k ≤ g.K.Sink.faults l.k;
}
