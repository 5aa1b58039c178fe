use Rattle.std.proofs.Common.{◌≤◌, take}
use Rattle.std.specs.List.{flat_map}
use Rattle.ij_io.specs.Bytes.{Adds}
use Rattle.table_file.specs.Tables.{seen_table}
use Rattle.bench_file.specs.Written.{table_text}
use Rattle.table_writer.proofs.tables.put_blocks.Given as goal

abbrev pub invariant-loop-t : goal.invariant-loop-t
invariant-loop-t g l = record {
  so_far : Adds (g.K.Sink.taken l.fn.k) (g.K.Sink.taken l.k)
      (flat_map (λ t. table_text (seen_table t)) (take l.t-index l.tables));
  later : g.K.Sink.faults l.fn.k ≤ g.K.Sink.faults l.k;
}
