use Rattle.std.proofs.Common.{◌≤◌, take}
use Rattle.std.specs.List.{flat_map}
use Rattle.ij_io.specs.Bytes.{Adds}
use Rattle.instruments.specs.Seen.{seen_word}
use Rattle.bench_file.specs.Written.{word_text}
use Rattle.table_writer.proofs.definition.put_all_words.Given as goal

abbrev pub invariant-loop-d : goal.invariant-loop-d
invariant-loop-d g l = record {
  so_far : Adds (g.K.Sink.taken l.fn.k) (g.K.Sink.taken l.k)
      (flat_map (λ d. word_text (seen_word d)) (take l.d-index l.words));
  later : g.K.Sink.faults l.fn.k ≤ g.K.Sink.faults l.k;
}
