use Rattle.std.proofs.Common.{◌≡◌, ◌≤◌, ◌<◌, length, ◌+◌, ◌*◌, false}
use Rattle.ij_text.specs.Reading.{read_repeat}
use Rattle.icl_lexer.specs.Grammar.{with_operand, sum_sign, product_sign}
use Rattle.icl_expressions.specs.Seen.{seen_counting}
use Rattle.icl_expressions.specs.Reading.{is_sign, read_operand, read_factor, read_term, read_sum}
use Rattle.icl_expressions.proofs.expressions.+expressions.Given as goal

abbrev pub decreases-factor : goal.decreases-factor
decreases-factor l = 6 * l.depth

abbrev pub decreases-in_parentheses : goal.decreases-in_parentheses
decreases-in_parentheses l = 6 * l.depth + 5

abbrev pub decreases-product : goal.decreases-product
decreases-product l = 6 * l.depth + 2

abbrev pub decreases-with_factor : goal.decreases-with_factor
decreases-with_factor l = 6 * l.depth + 1

abbrev pub decreases-sum : goal.decreases-sum
decreases-sum l = 6 * l.depth + 4

abbrev pub decreases-with_product : goal.decreases-with_product
decreases-with_product l = 6 * l.depth + 3

-- what is still read, from what is on the left, is what the whole reads
abbrev pub invariant-product-loop-alloc : goal.invariant-product-loop-alloc
invariant-product-loop-alloc l = record {
  bounded : l.left.value.used ≤ 256;
  shorter : length l.left.rest < length l.fn.tokens;
  goes_on : read_repeat (is_sign product_sign) (read_operand (read_factor l.depth false) product_sign)
      with_operand (seen_counting l.left.value) l.left.rest
      ≡ read_term l.depth l.alone l.used l.fn.tokens;
}

abbrev pub decreases-product-loop-alloc : goal.decreases-product-loop-alloc
decreases-product-loop-alloc l = length l.left.rest

abbrev pub invariant-sum-loop-alloc : goal.invariant-sum-loop-alloc
invariant-sum-loop-alloc l = record {
  bounded : l.left.value.used ≤ 256;
  shorter : length l.left.rest < length l.fn.tokens;
  goes_on : read_repeat (is_sign sum_sign) (read_operand (read_term l.depth false) sum_sign) with_operand
      (seen_counting l.left.value) l.left.rest
      ≡ read_sum l.depth l.used l.fn.tokens;
}

abbrev pub decreases-sum-loop-alloc : goal.decreases-sum-loop-alloc
decreases-sum-loop-alloc l = length l.left.rest
