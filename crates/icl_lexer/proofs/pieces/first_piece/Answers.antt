use Rattle.std.proofs.Common.{Option, sym, subst, ◌∙◌}
use Rattle.std.specs.Prelude.{IfNone}
use Rattle.icl_lexer.specs.declared.pieces.Match.{Match}
use Rattle.icl_lexer.specs.Cutting.{NoPiece}
use Rattle.icl_lexer.proofs.Matches.{is_piece, no_piece, no_mark}
use Rattle.icl_lexer.proofs.pieces.first_piece.Goals as goal
use Rattle.icl_lexer.proofs.pieces.first_piece.Goals.{else-found-eq1-via-then-found-eq1+else-opens_comment}
use Rattle.icl_lexer.proofs.pieces.first_piece.Goals.{else-found-eq1-via-else-found-eq1}

pub returns-in_err-found-clause-none : goal.returns-in_err-found-clause-none
returns-in_err-found-clause-none c =
    subst (λ (r : Option Match). IfNone r (NoPiece c.args.text.now)) (sym c.from_residual.ensures)
    (no_piece c.args.text.now (sym c.longest_match.ensures ∙ c.in_err-found.was))

pub returns-then-opens_comment-clause-none : goal.returns-then-opens_comment-clause-none
returns-then-opens_comment-clause-none c =
    no_mark c.args.text.now c.in_ok-found.found
    (sym c.longest_match.ensures ∙ c.in_ok-found.was) c.if-found-eq1.true (sym c.if-opens_comment.ensures)

pub returns-clause-some : goal.returns-clause-some
returns-clause-some c =
    let text = c.args.text.now in
    let is = is_piece text c.in_ok-found.found (sym c.longest_match.ensures ∙ c.in_ok-found.was) in
    elim c.else-found-eq1.branch [
      | else-found-eq1-via-then-found-eq1+else-opens_comment w ↦
          is (λ one. sym w.opens_comment.ensures ∙ w.if-opens_comment.false)
      | else-found-eq1-via-else-found-eq1 w ↦ is (λ one. absurd (w.if-found-eq1.false one))
    ]
