use Rattle.std.proofs.Common.{true, false, sym, ◌∙◌, arith}
use Rattle.std.proofs.lemmas.Result.{err_from_is_err_and}
use Rattle.icl_lexer.specs.Grammar.{with_operand, sum_sign, product_sign}
use Rattle.icl_expressions.specs.Seen.{seen_read, seen_counting}
use Rattle.icl_expressions.specs.Reading.{is_sign, read_operand, read_factor, read_term}
use Rattle.icl_expressions.proofs.Chains.{chain_start, chain_fails, more_factor_shrinks, more_term_shrinks}
use Rattle.icl_expressions.proofs.Steps.{go_on}
use Rattle.icl_expressions.proofs.expressions.+expressions.Goals as goal

-- ---- products

pub product-returns-in_err-left-clause-gives : goal.product-returns-in_err-left-clause-gives
product-returns-in_err-left-clause-gives t c =
    let p = err_from_is_err_and c.from_residual.result c.from_residual.ensures.1 in
    rw (p.1, p.2) (chain_fails (read_factor c.args.depth c.args.alone) (read_factor c.args.depth false)
    product_sign c.args.used c.args.tokens c.in_err-left.field-0.0 c.in_err-left.ensures.gives)

pub product-loop-alloc-init : goal.product-loop-alloc-init
product-loop-alloc-init t c = record {
  bounded = c.in_ok-left.ensures.bounded;
  shorter = c.in_ok-left.ensures.shorter;
  goes_on = chain_start (read_factor c.args.depth c.args.alone) (read_factor c.args.depth false) product_sign
      c.args.used c.args.tokens (seen_read seen_counting c.in_ok-left.left) c.in_ok-left.ensures.gives;
}

pub product-loop-alloc-preserved : goal.product-loop-alloc-preserved
product-loop-alloc-preserved t c = record {
  bounded = c.in_ok-left-2.ensures.bounded;
  shorter = omega (arith, c.in_ok-left-2.ensures.shorter, c.loop-alloc.invariant.shorter);
  goes_on = go_on with_operand (is_sign product_sign)
      (read_operand (read_factor c.args.depth false) product_sign) (more_factor_shrinks c.args.depth)
      (seen_counting c.loop-alloc.left.value) c.loop-alloc.left.rest
      (seen_read seen_counting c.in_ok-left-2.left) (sym c.begins_product_sign.ensures
      ∙ c.loop-alloc-test.true) c.in_ok-left-2.ensures.gives ∙ c.loop-alloc.invariant.goes_on;
}

-- ---- sums

pub sum-returns-in_err-left-clause-gives : goal.sum-returns-in_err-left-clause-gives
sum-returns-in_err-left-clause-gives t c =
    let p = err_from_is_err_and c.from_residual.result c.from_residual.ensures.1 in
    rw (p.1, p.2) (chain_fails (read_term c.args.depth true) (read_term c.args.depth false) sum_sign
    c.args.used c.args.tokens c.in_err-left.field-0.0 c.in_err-left.ensures.gives)

pub sum-loop-alloc-init : goal.sum-loop-alloc-init
sum-loop-alloc-init t c = record {
  bounded = c.in_ok-left.ensures.bounded;
  shorter = c.in_ok-left.ensures.shorter;
  goes_on = chain_start (read_term c.args.depth true) (read_term c.args.depth false) sum_sign c.args.used
      c.args.tokens (seen_read seen_counting c.in_ok-left.left) c.in_ok-left.ensures.gives;
}

pub sum-loop-alloc-preserved : goal.sum-loop-alloc-preserved
sum-loop-alloc-preserved t c = record {
  bounded = c.in_ok-left-2.ensures.bounded;
  shorter = omega (arith, c.in_ok-left-2.ensures.shorter, c.loop-alloc.invariant.shorter);
  goes_on = go_on with_operand (is_sign sum_sign) (read_operand (read_term c.args.depth false) sum_sign)
      (more_term_shrinks c.args.depth) (seen_counting c.loop-alloc.left.value) c.loop-alloc.left.rest
      (seen_read seen_counting c.in_ok-left-2.left) (sym c.begins_sum_sign.ensures ∙ c.loop-alloc-test.true)
      c.in_ok-left-2.ensures.gives ∙ c.loop-alloc.invariant.goes_on;
}
