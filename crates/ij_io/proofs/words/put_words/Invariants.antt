use Rattle.std.proofs.Common.{◌≤◌, take}
use Rattle.std.specs.List.{flat_map}
use Rattle.ij_io.specs.Bytes.{Adds}
use Rattle.ij_io.specs.Words.{word_text}
use Rattle.ij_io.proofs.words.put_words.Given as goal

abbrev pub invariant-loop-word : goal.invariant-loop-word
invariant-loop-word g l = record {
  so_far : Adds (g.K.Sink.taken l.fn.k) (g.K.Sink.taken l.k) (flat_map word_text (take l.word-index l.words));
  later : g.K.Sink.faults l.fn.k ≤ g.K.Sink.faults l.k;
}
