use Rattle.std.proofs.Common.{◌≤◌, take}
use Rattle.std.specs.List.{flat_map}
use Rattle.ij_io.specs.Bytes.{Adds}
use Rattle.mux_test.specs.Reported.{unseen_line}
use Rattle.mux_test.proofs.report.put_all_unseen.Given as goal

abbrev pub invariant-loop-row : goal.invariant-loop-row
invariant-loop-row g l = record {
  so_far : Adds (g.K.Sink.taken l.fn.k) (g.K.Sink.taken l.k)
      (flat_map (unseen_line l.net) (take l.row-index l.unseen));
  later : g.K.Sink.faults l.fn.k ≤ g.K.Sink.faults l.k;
}
