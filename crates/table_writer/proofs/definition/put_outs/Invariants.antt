use Rattle.std.proofs.Common.{◌≤◌, take}
use Rattle.std.specs.List.{flat_map}
use Rattle.ij_io.specs.Bytes.{Adds}
use Rattle.instruments.specs.Seen.{seen_model, seen_out}
use Rattle.bench_file.specs.Written.{out_text}
use Rattle.table_writer.proofs.definition.put_outs.Given as goal

abbrev pub invariant-loop-d : goal.invariant-loop-d
invariant-loop-d g l = record {
  so_far : Adds (g.K.Sink.taken l.fn.k) (g.K.Sink.taken l.k)
      (flat_map (λ d. out_text (seen_model l.m) (seen_out d)) (take l.d-index l.outs));
  later : g.K.Sink.faults l.fn.k ≤ g.K.Sink.faults l.k;
}
