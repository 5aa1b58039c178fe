use Rattle.std.proofs.Common.{arith}
use Rattle.ij_io.proofs.Adding.{at_refusal}
use Rattle.icl_printer.specs.Pieces.{spelled}
use Rattle.icl_printer.proofs.Laid.{token_next, token_refused, tokens_done}
use Rattle.icl_printer.proofs.token.put_tokens.Goals as goal

pub returns-in_err-put_token-clause-part : goal.returns-in_err-put_token-clause-part
returns-in_err-put_token-clause-part g c =
    at_refusal c.from_residual.result
    (token_refused spelled c.args.pieces.now c.loop-piece.piece-index c.piece-item.result
    c.loop-piece-test.true c.piece-item.is c.loop-piece.invariant.front c.in_err-put_token.ensures.part)

pub loop-piece-preserved : goal.loop-piece-preserved
loop-piece-preserved g c = record {
  front = token_next spelled c.args.pieces.now c.loop-piece.piece-index c.piece-item.result
      c.loop-piece-test.true c.piece-item.is c.loop-piece.invariant.front c.in_ok-put_token.ensures.whole;
  later = omega (arith, c.put_token.ensures.cause.later, c.loop-piece.invariant.later);
}

pub returns-clause-whole : goal.returns-clause-whole
returns-clause-whole g c = tokens_done spelled c.args.pieces.now c.loop-piece.piece-index
    c.loop-piece-test.false c.loop-piece.invariant.front
