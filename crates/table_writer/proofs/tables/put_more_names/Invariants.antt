use Rattle.std.proofs.Common.{◌≤◌, take}
use Rattle.std.specs.List.{flat_map}
use Rattle.ij_io.specs.Bytes.{Adds}
use Rattle.table_writer.specs.Pieces.{next_name}
use Rattle.table_writer.proofs.tables.put_more_names.Given as goal

abbrev pub invariant-loop-name : goal.invariant-loop-name
invariant-loop-name g l = record {
  so_far : Adds (g.K.Sink.taken l.fn.k) (g.K.Sink.taken l.k)
      (flat_map (λ name. next_name name.items) (take l.name-index l.names));
  later : g.K.Sink.faults l.fn.k ≤ g.K.Sink.faults l.k;
}
