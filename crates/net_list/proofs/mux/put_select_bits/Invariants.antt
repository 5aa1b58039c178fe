use Rattle.std.specs.Prelude.{[]}
use Rattle.std.proofs.Common.{◌≤◌, ◌-◌, length}
use Rattle.ij_io.proofs.Fronts.{AddsFront}
use Rattle.net_list.specs.Lines.{select_bits}
use Rattle.net_list.proofs.mux.put_select_bits.Given as goal

abbrev pub invariant-loop-j : goal.invariant-loop-j
invariant-loop-j g l = record {
  front : AddsFront (g.K.Sink.taken l.fn.k) (g.K.Sink.taken l.k) (select_bits l.format l.net l.before l.bits
      (length l.bits - l.j)) (select_bits l.format l.net [] l.bits (length l.bits));
  later : g.K.Sink.faults l.fn.k ≤ g.K.Sink.faults l.k;
}
