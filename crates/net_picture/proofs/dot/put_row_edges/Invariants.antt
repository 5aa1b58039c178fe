use Rattle.std.proofs.Common.{◌≤◌, ◌-◌}
use Rattle.ij_io.proofs.Fronts.{AddsFront}
use Rattle.net_picture.specs.Dot.{row_line}
use Rattle.net_list.specs.Listing.{lines_from}
use Rattle.net_picture.proofs.dot.put_row_edges.Given as goal

abbrev pub invariant-loop-row : goal.invariant-loop-row
invariant-loop-row g l = record {
  front : AddsFront (g.K.Sink.taken l.fn.k) (g.K.Sink.taken l.k)
      (lines_from (row_line l.net l.active l.selected l.mux) l.row (l.count - l.row))
      (lines_from (row_line l.net l.active l.selected l.mux) 0 l.count);
  later : g.K.Sink.faults l.fn.k ≤ g.K.Sink.faults l.k;
}
