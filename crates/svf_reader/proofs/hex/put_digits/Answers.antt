use Rattle.std.proofs.Common.{◌≡◌, ◌≤◌, ◌+◌, ◌-◌, ◌/◌, ◌^◌, ◌++◌, Bool, not, List, length, drop, arith, ap}
use Rattle.std.proofs.Common.{sym, ◌∙◌}
use Rattle.std.specs.Prelude.{◌==◌, ◌||◌}
use Rattle.ij_bits.specs.BitLists.{bits_of, number_of, has_one}
use Rattle.svf_reader.specs.Values.{hex_bits, fitted, is_wide}
use Rattle.svf_reader.proofs.Packing.{InParts, fitted_more, last_bits, wide_is}
use Rattle.svf_reader.proofs.hex.put_digits.Goals as goal

pub returns-clause-items : goal.returns-clause-items
returns-clause-items c =
    let all = hex_bits c.args.digits.now in
    let old = c.put_words-rest.new.bits.items in
    let k = length old in
    let rest = c.put_words-rest.result.now in
    let front = c.split_last-parts.result.front.now in
    let last = c.split_last-parts.result.last.now in
    let parts : InParts rest front last = record {
      all = c.split_last-parts.ensures.all;
      few = c.split_last-parts.ensures.few;
      lone = c.split_last-parts.ensures.front;
    } in
    let n = c.args.len - c.len.result in
    let few : n ≤ 64 = omega (arith, c.len.ensures, c.put_words-rest.ensures.near) in
    let sum : k + n ≡ c.args.len = omega (arith, c.len.ensures, c.put_words-rest.ensures.within) in
    c.append_number_reserved.ensures.items
    ∙ ap (λ v. old ++ bits_of n v) c.digits_number-value.ensures
    ∙ ap (λ (l : List Bool). l ++ bits_of n (number_of (hex_bits last))) c.put_words-rest.ensures.items
    ∙ ap (λ (l : List Bool). fitted k all ++ l)
    (sym (ap (fitted n) c.put_words-rest.ensures.left ∙ last_bits n rest front last parts few))
    ∙ sym (fitted_more k n all)
    ∙ ap (λ m. fitted m all) sum

pub returns-clause-wide : goal.returns-clause-wide
unfolding is_wide
returns-clause-wide c =
    let all = hex_bits c.args.digits.now in
    let k = length c.put_words-rest.new.bits.items in
    let rest = c.put_words-rest.result.now in
    let front = c.split_last-parts.result.front.now in
    let last = c.split_last-parts.result.last.now in
    let parts : InParts rest front last = record {
      all = c.split_last-parts.ensures.all;
      few = c.split_last-parts.ensures.few;
      lone = c.split_last-parts.ensures.front;
    } in
    let n = c.args.len - c.len.result in
    let few : n ≤ 64 = omega (arith, c.len.ensures, c.put_words-rest.ensures.near) in
    let sum : k + n ≡ c.args.len = omega (arith, c.len.ensures, c.put_words-rest.ensures.within) in
    ap (λ (b : Bool). b || c.have_one.result)
    (c.has_one_at_or_above.ensures ∙ ap (λ v. not ((v / 2 ^ n) == 0)) c.digits_number-value.ensures)
    ∙ ap (λ (b : Bool). not ((number_of (hex_bits last) / 2 ^ n) == 0) || b) c.have_one.ensures
    ∙ sym (wide_is k n all rest front last parts few c.put_words-rest.ensures.left)
    ∙ ap (λ m. has_one (drop m all)) sum
