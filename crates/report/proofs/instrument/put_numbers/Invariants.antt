use Rattle.std.proofs.Common.{◌≤◌, map, drop}
use Rattle.ij_io.proofs.Fronts.{AddsFront}
use Rattle.instruments.specs.Seen.{seen_word}
use Rattle.report.specs.Instruments.{words_from}
use Rattle.report.proofs.instrument.put_numbers.Given as goal

abbrev pub invariant-loop-i : goal.invariant-loop-i
invariant-loop-i g l = record {
  front : AddsFront (g.K.Sink.taken l.fn.k) (g.K.Sink.taken l.k) (words_from l.machine.words l.i
      (drop l.i (map seen_word l.words.items))) (words_from l.machine.words 0 (map seen_word l.words.items));
  later : g.K.Sink.faults l.fn.k ≤ g.K.Sink.faults l.k;
}
