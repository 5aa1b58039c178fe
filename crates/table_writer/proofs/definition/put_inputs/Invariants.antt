use Rattle.std.proofs.Common.{◌≤◌, take}
use Rattle.std.specs.List.{flat_map}
use Rattle.ij_io.specs.Bytes.{Adds}
use Rattle.instruments.specs.Seen.{seen_port}
use Rattle.bench_file.specs.Written.{input_text}
use Rattle.table_writer.proofs.definition.put_inputs.Given as goal

abbrev pub invariant-loop-d : goal.invariant-loop-d
invariant-loop-d g l = record {
  so_far : Adds (g.K.Sink.taken l.fn.k) (g.K.Sink.taken l.k)
      (flat_map (λ d. input_text (seen_port d)) (take l.d-index l.ins));
  later : g.K.Sink.faults l.fn.k ≤ g.K.Sink.faults l.k;
}
