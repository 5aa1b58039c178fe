use Rattle.std.proofs.Common.{◌≤◌, ◌-◌, length}
use Rattle.ij_io.proofs.Fronts.{AddsFront}
use Rattle.net_list.specs.Drivers.{drivers}
use Rattle.net_list.proofs.drivers.put_drivers.Given as goal

abbrev pub invariant-loop-j : goal.invariant-loop-j
invariant-loop-j g l = record {
  front : AddsFront (g.K.Sink.taken l.fn.k) (g.K.Sink.taken l.k)
      (drivers l.net l.bits (length l.bits - l.j)) (drivers l.net l.bits (length l.bits));
  later : g.K.Sink.faults l.fn.k ≤ g.K.Sink.faults l.k;
}
