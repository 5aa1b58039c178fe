use Rattle.std.proofs.Common.{◌≤◌, ◌-◌}
use Rattle.ij_io.proofs.Fronts.{AddsFront}
use Rattle.net_picture.specs.Dot.{register_edge}
use Rattle.net_list.specs.Listing.{lines_from}
use Rattle.net_picture.proofs.dot.put_register_edges.Given as goal

abbrev pub invariant-loop-reg : goal.invariant-loop-reg
invariant-loop-reg g l = record {
  front : AddsFront (g.K.Sink.taken l.fn.k) (g.K.Sink.taken l.k) (lines_from (register_edge l.net l.met) l.reg
      (l.count - l.reg)) (lines_from (register_edge l.net l.met) 0 l.count);
  later : g.K.Sink.faults l.fn.k ≤ g.K.Sink.faults l.k;
}
