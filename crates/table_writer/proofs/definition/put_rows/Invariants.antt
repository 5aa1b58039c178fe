use Rattle.std.proofs.Common.{◌≤◌, take}
use Rattle.std.specs.List.{flat_map}
use Rattle.ij_io.specs.Bytes.{Adds}
use Rattle.instruments.specs.Seen.{seen_model, seen_row}
use Rattle.bench_file.specs.Written.{row_text}
use Rattle.table_writer.proofs.definition.put_rows.Given as goal

abbrev pub invariant-loop-row : goal.invariant-loop-row
invariant-loop-row g l = record {
  so_far : Adds (g.K.Sink.taken l.fn.k) (g.K.Sink.taken l.k)
      (flat_map (λ row. row_text (seen_model l.m) l.kind (seen_row row)) (take l.row-index l.rows));
  later : g.K.Sink.faults l.fn.k ≤ g.K.Sink.faults l.k;
}
