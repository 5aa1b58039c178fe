use Rattle.std.proofs.Common.{◌+◌, nat_lt, refl, ap, sym, ◌∙◌}
use Rattle.ij_io.proofs.Adding.{at_refusal}
use Rattle.icl_lexer.specs.Views.{seen_expr}
use Rattle.icl_printer.specs.Canonical.{binding, sign_mark}
use Rattle.icl_printer.proofs.Laid.{laid_both, laid_front, laid_then_part, part_as, whole_as}
use Rattle.icl_printer.proofs.Operations.{operation_is}
use Rattle.icl_printer.proofs.expressions.+put_expr.Goals as goal

pub returns-in_err-put_mark_if-in-Op-clause-part : goal.returns-in_err-put_mark_if-in-Op-clause-part
returns-in_err-put_mark_if-in-Op-clause-part g t c =
    at_refusal c.from_residual-in_err-put_mark_if-in-Op.result (part_as (let op = c.in-Op in
    let p = c.precedence.result in operation_is op.field-0 op.sign (seen_expr op.left.value) (seen_expr
    op.right.value) (seen_expr c.args.expr.now) (seen_expr op.left.value) (seen_expr op.right.value)
    c.needs_parentheses-around_left.result c.needs_parentheses-around_right.result p (sign_mark op.sign)
    (ap seen_expr op.is) refl refl c.precedence.ensures
    (c.needs_parentheses-around_left.ensures ∙ ap (λ x. nat_lt (binding (seen_expr x)) p) c.deref.ensures)
    (c.needs_parentheses-around_right.ensures ∙ ap (λ n. nat_lt (binding (seen_expr c.deref-in-Op.result.now))
    (n + 1)) (c.precedence-in-Op.ensures ∙ sym c.precedence.ensures)
    ∙ ap (λ x. nat_lt (binding (seen_expr x)) (p + 1)) c.deref-in-Op.ensures) refl)
    (laid_front _ _ (laid_front _ _ c.in_err-put_mark_if-in-Op.ensures.part)))

pub returns-in_err-put_expr-in-Op-clause-part : goal.returns-in_err-put_expr-in-Op-clause-part
returns-in_err-put_expr-in-Op-clause-part g t c =
    at_refusal c.from_residual-in_err-put_expr-in-Op.result (part_as (let op = c.in-Op in
    let p = c.precedence.result in
    operation_is op.field-0 op.sign (seen_expr op.left.value) (seen_expr op.right.value)
    (seen_expr c.args.expr.now) (seen_expr c.deref-in-Op-2.result.now) (seen_expr op.right.value)
    c.needs_parentheses-around_left.result c.needs_parentheses-around_right.result p (sign_mark op.sign)
    (ap seen_expr op.is) (ap seen_expr c.deref-in-Op-2.ensures) refl c.precedence.ensures
    (c.needs_parentheses-around_left.ensures ∙ ap (λ x. nat_lt (binding (seen_expr x)) p) c.deref.ensures)
    (c.needs_parentheses-around_right.ensures ∙ ap (λ n. nat_lt (binding (seen_expr c.deref-in-Op.result.now))
    (n + 1)) (c.precedence-in-Op.ensures ∙ sym c.precedence.ensures)
    ∙ ap (λ x. nat_lt (binding (seen_expr x)) (p + 1)) c.deref-in-Op.ensures) refl)
    (laid_front _ _ (laid_then_part _ _ c.in_ok-put_mark_if-in-Op.ensures.whole
    (laid_front _ _ c.in_err-put_expr-in-Op.ensures.part))))

pub returns-in_err-put_mark_if-in-Op-2-clause-part : goal.returns-in_err-put_mark_if-in-Op-2-clause-part
returns-in_err-put_mark_if-in-Op-2-clause-part g t c =
    at_refusal c.from_residual-in_err-put_mark_if-in-Op-2.result (part_as (let op = c.in-Op in
    let p = c.precedence.result in
    operation_is op.field-0 op.sign (seen_expr op.left.value) (seen_expr op.right.value)
    (seen_expr c.args.expr.now) (seen_expr c.deref-in-Op-2.result.now) (seen_expr op.right.value)
    c.needs_parentheses-around_left.result c.needs_parentheses-around_right.result p (sign_mark op.sign)
    (ap seen_expr op.is) (ap seen_expr c.deref-in-Op-2.ensures) refl c.precedence.ensures
    (c.needs_parentheses-around_left.ensures ∙ ap (λ x. nat_lt (binding (seen_expr x)) p) c.deref.ensures)
    (c.needs_parentheses-around_right.ensures ∙ ap (λ n. nat_lt (binding (seen_expr c.deref-in-Op.result.now))
    (n + 1)) (c.precedence-in-Op.ensures ∙ sym c.precedence.ensures)
    ∙ ap (λ x. nat_lt (binding (seen_expr x)) (p + 1)) c.deref-in-Op.ensures) refl)
    (laid_front _ _ (laid_then_part _ _ c.in_ok-put_mark_if-in-Op.ensures.whole
    (laid_then_part _ _ c.in_ok-put_expr-in-Op.ensures.whole c.in_err-put_mark_if-in-Op-2.ensures.part))))

pub returns-in_err-put_tokens-in-Op-clause-part : goal.returns-in_err-put_tokens-in-Op-clause-part
returns-in_err-put_tokens-in-Op-clause-part g t c =
    at_refusal c.from_residual-in_err-put_tokens-in-Op.result (part_as (let op = c.in-Op in
    let p = c.precedence.result in
    operation_is op.field-0 op.sign (seen_expr op.left.value) (seen_expr op.right.value)
    (seen_expr c.args.expr.now) (seen_expr c.deref-in-Op-2.result.now) (seen_expr op.right.value)
    c.needs_parentheses-around_left.result c.needs_parentheses-around_right.result p c.mark_of.result
    (ap seen_expr op.is) (ap seen_expr c.deref-in-Op-2.ensures) refl c.precedence.ensures
    (c.needs_parentheses-around_left.ensures ∙ ap (λ x. nat_lt (binding (seen_expr x)) p) c.deref.ensures)
    (c.needs_parentheses-around_right.ensures ∙ ap (λ n. nat_lt (binding (seen_expr c.deref-in-Op.result.now))
    (n + 1)) (c.precedence-in-Op.ensures ∙ sym c.precedence.ensures)
    ∙ ap (λ x. nat_lt (binding (seen_expr x)) (p + 1)) c.deref-in-Op.ensures) c.mark_of.ensures)
    (laid_then_part _ _ (laid_both _ _ c.in_ok-put_mark_if-in-Op.ensures.whole
    (laid_both _ _ c.in_ok-put_expr-in-Op.ensures.whole c.in_ok-put_mark_if-in-Op-2.ensures.whole))
    (laid_front _ _ c.in_err-put_tokens-in-Op.ensures.part)))

pub returns-in_err-put_mark_if-in-Op-3-clause-part : goal.returns-in_err-put_mark_if-in-Op-3-clause-part
returns-in_err-put_mark_if-in-Op-3-clause-part g t c =
    at_refusal c.from_residual-in_err-put_mark_if-in-Op-3.result (part_as (let op = c.in-Op in
    let p = c.precedence.result in
    operation_is op.field-0 op.sign (seen_expr op.left.value) (seen_expr op.right.value)
    (seen_expr c.args.expr.now) (seen_expr c.deref-in-Op-2.result.now) (seen_expr op.right.value)
    c.needs_parentheses-around_left.result c.needs_parentheses-around_right.result p c.mark_of.result
    (ap seen_expr op.is) (ap seen_expr c.deref-in-Op-2.ensures) refl c.precedence.ensures
    (c.needs_parentheses-around_left.ensures ∙ ap (λ x. nat_lt (binding (seen_expr x)) p) c.deref.ensures)
    (c.needs_parentheses-around_right.ensures ∙ ap (λ n. nat_lt (binding (seen_expr c.deref-in-Op.result.now))
    (n + 1)) (c.precedence-in-Op.ensures ∙ sym c.precedence.ensures)
    ∙ ap (λ x. nat_lt (binding (seen_expr x)) (p + 1)) c.deref-in-Op.ensures) c.mark_of.ensures)
    (laid_then_part _ _ (laid_both _ _ c.in_ok-put_mark_if-in-Op.ensures.whole (laid_both _ _
    c.in_ok-put_expr-in-Op.ensures.whole c.in_ok-put_mark_if-in-Op-2.ensures.whole)) (laid_then_part _ _
    c.in_ok-put_tokens-in-Op.ensures.whole (laid_front _ _ c.in_err-put_mark_if-in-Op-3.ensures.part))))

pub returns-in_err-put_expr-in-Op-2-clause-part : goal.returns-in_err-put_expr-in-Op-2-clause-part
returns-in_err-put_expr-in-Op-2-clause-part g t c =
    at_refusal c.from_residual-in_err-put_expr-in-Op-2.result (part_as (let op = c.in-Op in
    let p = c.precedence.result in operation_is op.field-0 op.sign (seen_expr op.left.value)
    (seen_expr op.right.value) (seen_expr c.args.expr.now)
    (seen_expr c.deref-in-Op-2.result.now) (seen_expr c.deref-in-Op-3.result.now)
    c.needs_parentheses-around_left.result c.needs_parentheses-around_right.result p c.mark_of.result
    (ap seen_expr op.is) (ap seen_expr c.deref-in-Op-2.ensures)
    (ap seen_expr c.deref-in-Op-3.ensures) c.precedence.ensures
    (c.needs_parentheses-around_left.ensures ∙ ap (λ x. nat_lt (binding (seen_expr x)) p) c.deref.ensures)
    (c.needs_parentheses-around_right.ensures ∙ ap (λ n. nat_lt (binding (seen_expr c.deref-in-Op.result.now))
    (n + 1)) (c.precedence-in-Op.ensures ∙ sym c.precedence.ensures)
    ∙ ap (λ x. nat_lt (binding (seen_expr x)) (p + 1)) c.deref-in-Op.ensures) c.mark_of.ensures)
    (laid_then_part _ _ (laid_both _ _ c.in_ok-put_mark_if-in-Op.ensures.whole
    (laid_both _ _ c.in_ok-put_expr-in-Op.ensures.whole c.in_ok-put_mark_if-in-Op-2.ensures.whole))
    (laid_then_part _ _ c.in_ok-put_tokens-in-Op.ensures.whole (laid_then_part _ _
    c.in_ok-put_mark_if-in-Op-3.ensures.whole (laid_front _ _ c.in_err-put_expr-in-Op-2.ensures.part)))))

pub returns-in_err-put_mark_if-in-Op-4-clause-part : goal.returns-in_err-put_mark_if-in-Op-4-clause-part
returns-in_err-put_mark_if-in-Op-4-clause-part g t c =
    at_refusal c.from_residual-in_err-put_mark_if-in-Op-4.result (part_as (let op = c.in-Op in
    let p = c.precedence.result in operation_is op.field-0 op.sign (seen_expr op.left.value)
    (seen_expr op.right.value) (seen_expr c.args.expr.now)
    (seen_expr c.deref-in-Op-2.result.now) (seen_expr c.deref-in-Op-3.result.now)
    c.needs_parentheses-around_left.result c.needs_parentheses-around_right.result p c.mark_of.result
    (ap seen_expr op.is) (ap seen_expr c.deref-in-Op-2.ensures)
    (ap seen_expr c.deref-in-Op-3.ensures) c.precedence.ensures
    (c.needs_parentheses-around_left.ensures ∙ ap (λ x. nat_lt (binding (seen_expr x)) p) c.deref.ensures)
    (c.needs_parentheses-around_right.ensures ∙ ap (λ n. nat_lt (binding (seen_expr c.deref-in-Op.result.now))
    (n + 1)) (c.precedence-in-Op.ensures ∙ sym c.precedence.ensures)
    ∙ ap (λ x. nat_lt (binding (seen_expr x)) (p + 1)) c.deref-in-Op.ensures) c.mark_of.ensures)
    (laid_then_part _ _ (laid_both _ _ c.in_ok-put_mark_if-in-Op.ensures.whole
    (laid_both _ _ c.in_ok-put_expr-in-Op.ensures.whole c.in_ok-put_mark_if-in-Op-2.ensures.whole))
    (laid_then_part _ _ c.in_ok-put_tokens-in-Op.ensures.whole
    (laid_then_part _ _ c.in_ok-put_mark_if-in-Op-3.ensures.whole (laid_then_part _ _
    c.in_ok-put_expr-in-Op-2.ensures.whole c.in_err-put_mark_if-in-Op-4.ensures.part)))))

pub returns-in_ok-put_mark_if-in-Op-4-clause-whole : goal.returns-in_ok-put_mark_if-in-Op-4-clause-whole
returns-in_ok-put_mark_if-in-Op-4-clause-whole g t c =
    whole_as (let op = c.in-Op in let p = c.precedence.result in operation_is op.field-0 op.sign
    (seen_expr op.left.value) (seen_expr op.right.value) (seen_expr c.args.expr.now)
    (seen_expr c.deref-in-Op-2.result.now) (seen_expr c.deref-in-Op-3.result.now)
    c.needs_parentheses-around_left.result c.needs_parentheses-around_right.result p c.mark_of.result
    (ap seen_expr op.is) (ap seen_expr c.deref-in-Op-2.ensures)
    (ap seen_expr c.deref-in-Op-3.ensures) c.precedence.ensures
    (c.needs_parentheses-around_left.ensures ∙ ap (λ x. nat_lt (binding (seen_expr x)) p) c.deref.ensures)
    (c.needs_parentheses-around_right.ensures ∙ ap (λ n. nat_lt (binding (seen_expr c.deref-in-Op.result.now))
    (n + 1)) (c.precedence-in-Op.ensures ∙ sym c.precedence.ensures)
    ∙ ap (λ x. nat_lt (binding (seen_expr x)) (p + 1)) c.deref-in-Op.ensures) c.mark_of.ensures)
    (laid_both _ _ (laid_both _ _ c.in_ok-put_mark_if-in-Op.ensures.whole (laid_both _ _
    c.in_ok-put_expr-in-Op.ensures.whole c.in_ok-put_mark_if-in-Op-2.ensures.whole)) (laid_both _ _
    c.in_ok-put_tokens-in-Op.ensures.whole (laid_both _ _ c.in_ok-put_mark_if-in-Op-3.ensures.whole
    (laid_both _ _ c.in_ok-put_expr-in-Op-2.ensures.whole c.in_ok-put_mark_if-in-Op-4.ensures.whole))))
