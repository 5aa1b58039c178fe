use Rattle.std.proofs.Common.{◌≤◌, ◌-◌}
use Rattle.ij_io.proofs.Fronts.{AddsFront}
use Rattle.net_list.specs.Forms.{tern_digits}
use Rattle.net_list.proofs.values.put_digits.Given as goal

abbrev pub invariant-loop-j : goal.invariant-loop-j
invariant-loop-j g l = record {
  front : AddsFront (g.K.Sink.taken l.fn.k) (g.K.Sink.taken l.k)
      (tern_digits l.value (l.width - l.j)) (tern_digits l.value l.width);
  later : g.K.Sink.faults l.fn.k ≤ g.K.Sink.faults l.k;
}
