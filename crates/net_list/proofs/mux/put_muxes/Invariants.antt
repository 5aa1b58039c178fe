use Rattle.std.proofs.Common.{◌≤◌, ◌-◌}
use Rattle.ij_io.proofs.Fronts.{AddsFront}
use Rattle.net_list.specs.Lines.{mux_line}
use Rattle.net_list.specs.Listing.{lines_from}
use Rattle.net_list.proofs.mux.put_muxes.Given as goal

abbrev pub invariant-loop-mux : goal.invariant-loop-mux
invariant-loop-mux g l = record {
  front : AddsFront (g.K.Sink.taken l.fn.k) (g.K.Sink.taken l.k)
      (lines_from (mux_line l.format l.net l.tree) l.mux (l.count - l.mux))
      (lines_from (mux_line l.format l.net l.tree) 0 l.count);
  later : g.K.Sink.faults l.fn.k ≤ g.K.Sink.faults l.k;
}
