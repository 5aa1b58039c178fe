use Rattle.std.proofs.Common.{Err, sym, ap, ◌∙◌}
use Rattle.std.proofs.lemmas.Result.{err_from_is_err_and}
use Rattle.icl_lexer.proofs.Unique.{tokens_or_fault, fault_unique}
use Rattle.icl_lexer.proofs.Fronts.{seen_is, tokens_count}
use Rattle.icl_lexer.proofs.lexing.lex.Goals as goal

pub returns-in_err-count-clause-accepted : goal.returns-in_err-count-clause-accepted
returns-in_err-count-clause-accepted c =
    λ tokens are. absurd (tokens_or_fault c.args.src.now tokens _ are c.in_err-count.ensures)

pub returns-in_err-count-clause-refused : goal.returns-in_err-count-clause-refused
returns-in_err-count-clause-refused c = λ fault h.
    let p = err_from_is_err_and c.from_residual.result c.from_residual.ensures.1 in
    p.1 ∙ ap Err (p.2 ∙ fault_unique c.args.src.now _ fault c.in_err-count.ensures h)

pub cursor_at-requires-clause-counted : goal.cursor_at-requires-clause-counted
cursor_at-requires-clause-counted c =
    let g = c.in_ok-count.ensures in
    g.2 ∙ sym (tokens_count c.args.src.now g.0 g.1)

pub returns-clause-tokens : goal.returns-clause-tokens
returns-clause-tokens c =
    let g = c.in_ok-count.ensures in
    (g.0, g.1, c.cursor_at.ensures ∙ sym (seen_is c.args.src.now g.0 g.1))

pub returns-clause-only : goal.returns-clause-only
returns-clause-only c = λ tokens are. c.cursor_at.ensures ∙ sym (seen_is c.args.src.now tokens are)

pub returns-clause-refused : goal.returns-clause-refused
returns-clause-refused c =
    λ fault h. absurd (tokens_or_fault c.args.src.now c.in_ok-count.ensures.0 fault c.in_ok-count.ensures.1 h)
