use Rattle.std.proofs.Common.{◌≤◌}
use Rattle.icl_printer.specs.Canonical.{after}
use Rattle.icl_printer.proofs.Laid.{PartsLeft}
use Rattle.icl_printer.proofs.put.put_each_after.Given as goal

abbrev pub invariant-loop-part : goal.invariant-loop-part
invariant-loop-part g l = record {
  front : PartsLeft (after l.mark g.T.Put.tokens) g.T.Put.view l.parts l.part-index
      (g.K.Sink.taken l.fn.k) (g.K.Sink.taken l.k);
  later : g.K.Sink.faults l.fn.k ≤ g.K.Sink.faults l.k;
}
