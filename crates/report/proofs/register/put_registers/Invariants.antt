use Rattle.std.proofs.Common.{◌≤◌, ◌-◌}
use Rattle.ij_io.proofs.Fronts.{AddsFront}
use Rattle.report.specs.Registers.{registers_from, registers_text}
use Rattle.report.proofs.register.put_registers.Given as goal

abbrev pub invariant-loop-reg : goal.invariant-loop-reg
invariant-loop-reg g l = record {
  front : AddsFront (g.K.Sink.taken l.fn.k) (g.K.Sink.taken l.k)
      (registers_from l.net l.holds l.reg (l.count - l.reg)) (registers_text l.net l.holds);
  later : g.K.Sink.faults l.fn.k ≤ g.K.Sink.faults l.k;
}
