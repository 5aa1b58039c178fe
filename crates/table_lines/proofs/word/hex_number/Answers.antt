use Rattle.std.proofs.Common.{◌≡◌, ◌<◌, ◌+◌, ◌*◌, suc, drop, get_or, ap, sym, ◌∙◌, arith, drop-cons}
use Rattle.ij_text.specs.Numbers.{hex_value}
use Rattle.table_lines.specs.Words.{hex_from}
use Rattle.table_lines.proofs.Saying.{one_more_digit, in_word}
use Rattle.table_lines.proofs.word.hex_number.Goals as goal

pub overflow_mul-n : goal.overflow_mul-n
overflow_mul-n c =
    let few : c.loop-b.b-index < 16 = omega (arith, c.loop-b-test.true, c.requires.few) in
    let small = in_word c.loop-b.b-index c.loop-b.n c.loop-b.invariant.small few in
    omega (arith, small)

pub overflow_add-n : goal.overflow_add-n
overflow_add-n c =
    let few : c.loop-b.b-index < 16 = omega (arith, c.loop-b-test.true, c.requires.few) in
    let small = in_word c.loop-b.b-index c.loop-b.n c.loop-b.invariant.small few in
    omega (arith, small, c.digit_of.ensures.small, c.from.ensures)

pub loop-b-preserved : goal.loop-b-preserved
loop-b-preserved c =
    let text = c.args.text.now in
    let i = c.loop-b.b-index in
    let n = c.loop-b.n in
    let next : i + 1 ≡ suc i = omega arith in
    let value = c.from.ensures ∙ c.digit_of.ensures.value in
    let front : hex_from n (drop i text) ≡ hex_from (16 * n + hex_value (get_or text i 0))
    (drop (suc i) text) = ap (hex_from n) (drop-cons text i 0 c.loop-b-test.true) in
    let small : c.from.result < 16 = omega (arith, c.from.ensures, c.digit_of.ensures.small) in
    record {
      so_far = ap (λ v. hex_from (16 * n + v) (drop (i + 1) text)) value
          ∙ ap (λ k. hex_from (16 * n + hex_value (get_or text i 0)) (drop k text)) next
          ∙ sym front ∙ c.loop-b.invariant.so_far;
      small = one_more_digit i n c.from.result c.loop-b.invariant.small small;
    }
