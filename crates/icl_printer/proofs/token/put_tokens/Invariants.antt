use Rattle.std.proofs.Common.{◌≤◌}
use Rattle.icl_printer.specs.Pieces.{spelled}
use Rattle.icl_printer.proofs.Laid.{PartsLeft, one_token}
use Rattle.icl_printer.proofs.token.put_tokens.Given as goal

abbrev pub invariant-loop-piece : goal.invariant-loop-piece
invariant-loop-piece g l = record {
  front : PartsLeft one_token spelled l.pieces l.piece-index (g.K.Sink.taken l.fn.k) (g.K.Sink.taken l.k);
  later : g.K.Sink.faults l.fn.k ≤ g.K.Sink.faults l.k;
}
