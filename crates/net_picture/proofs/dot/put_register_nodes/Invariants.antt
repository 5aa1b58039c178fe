use Rattle.std.proofs.Common.{◌≤◌, ◌-◌}
use Rattle.ij_io.proofs.Fronts.{AddsFront}
use Rattle.net_picture.specs.Dot.{register_node}
use Rattle.net_list.specs.Listing.{lines_from}
use Rattle.net_picture.proofs.dot.put_register_nodes.Given as goal

abbrev pub invariant-loop-reg : goal.invariant-loop-reg
invariant-loop-reg g l = record {
  front : AddsFront (g.K.Sink.taken l.fn.k) (g.K.Sink.taken l.k)
      (lines_from (register_node l.net l.marks.marked l.marks.met.now) l.reg (l.count - l.reg))
      (lines_from (register_node l.net l.marks.marked l.marks.met.now) 0 l.count);
  later : g.K.Sink.faults l.fn.k ≤ g.K.Sink.faults l.k;
}
