use Rattle.std.proofs.Common.{◌≤◌, take}
use Rattle.std.specs.List.{flat_map}
use Rattle.ij_io.specs.Bytes.{Adds}
use Rattle.net_picture.specs.Dot.{select_edge}
use Rattle.net_picture.proofs.dot.put_select_edges.Given as goal

abbrev pub invariant-loop-bit : goal.invariant-loop-bit
invariant-loop-bit g l = record {
  so_far : Adds (g.K.Sink.taken l.fn.k) (g.K.Sink.taken l.k)
      (flat_map (select_edge l.mux) (take l.bit-index l.bits));
  later : g.K.Sink.faults l.fn.k ≤ g.K.Sink.faults l.k;
}
