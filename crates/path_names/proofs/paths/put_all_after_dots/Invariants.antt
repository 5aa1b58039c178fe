use Rattle.std.proofs.Common.{◌≤◌, take}
use Rattle.std.specs.List.{flat_map}
use Rattle.ij_io.specs.Bytes.{Adds}
use Rattle.net_graph.specs.PathNames.{after_dot}
use Rattle.path_names.proofs.paths.put_all_after_dots.Given as goal

abbrev pub invariant-loop-name : goal.invariant-loop-name
invariant-loop-name g l = record {
  so_far : Adds (g.K.Sink.taken l.fn.k) (g.K.Sink.taken l.k) (flat_map after_dot (take l.name-index l.names));
  later : g.K.Sink.faults l.fn.k ≤ g.K.Sink.faults l.k;
}
