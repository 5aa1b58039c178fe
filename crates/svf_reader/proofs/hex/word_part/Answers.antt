use Rattle.std.proofs.Common.{◌≡◌, ℕ, ◌/◌, ◌^◌, Bool, Option, List, Result, Some, Ok, Err, not, cond, ap, sym}
use Rattle.std.proofs.Common.{◌∙◌}
use Rattle.std.specs.Prelude.{◌==◌, ◌||◌}
use Rattle.ij_bits.specs.BitLists.{bits_of, has_one}
use Rattle.svf_reader.specs.Answers.{part_value}
use Rattle.svf_reader.specs.Meaning.{Cause, HexWide}
use Rattle.svf_reader.specs.Values.{hex_bits, fitted, is_wide}
use Rattle.svf_reader.proofs.Packing.{InParts, last_bits, word_wide}
use Rattle.svf_reader.proofs.hex.word_part.Goals as goal

pub returns-then-has_one_at_or_above-have_one : goal.returns-then-has_one_at_or_above-have_one
unfolding part_value
returns-then-has_one_at_or_above-have_one c =
    let n = c.args.len in
    let digits = c.args.digits.now in
    let front = c.split_last-parts.result.front.now in
    let last = c.split_last-parts.result.last.now in
    let parts : InParts digits front last = record {
      all = c.split_last-parts.ensures.all;
      few = c.split_last-parts.ensures.few;
      lone = c.split_last-parts.ensures.front;
    } in
    let wide : is_wide n (hex_bits digits) ≡ (c.has_one_at_or_above.result || c.have_one.result) =
    word_wide n digits front last parts c.requires
    ∙ ap (λ (v : ℕ). not (v / 2 ^ n == 0) || has_one (hex_bits front)) (sym c.digits_number-value.ensures)
    ∙ ap (λ (b : Bool). b || has_one (hex_bits front)) (sym c.has_one_at_or_above.ensures)
    ∙ ap (λ (b : Bool). c.has_one_at_or_above.result || b) (sym c.have_one.ensures) in
    ap (λ b. cond b (let e : Result (Option (List Bool)) Cause = Err HexWide in
    e) (Ok (Some (fitted n (hex_bits digits))))) (wide ∙ c.if-has_one_at_or_above-have_one.true)

pub returns : goal.returns
unfolding part_value
returns c =
    let n = c.args.len in
    let digits = c.args.digits.now in
    let front = c.split_last-parts.result.front.now in
    let last = c.split_last-parts.result.last.now in
    let parts : InParts digits front last = record {
      all = c.split_last-parts.ensures.all;
      few = c.split_last-parts.ensures.few;
      lone = c.split_last-parts.ensures.front;
    } in
    let wide : is_wide n (hex_bits digits) ≡ (c.has_one_at_or_above.result || c.have_one.result) =
    word_wide n digits front last parts c.requires
    ∙ ap (λ (v : ℕ). not (v / 2 ^ n == 0) || has_one (hex_bits front)) (sym c.digits_number-value.ensures)
    ∙ ap (λ (b : Bool). b || has_one (hex_bits front)) (sym c.has_one_at_or_above.ensures)
    ∙ ap (λ (b : Bool). c.has_one_at_or_above.result || b) (sym c.have_one.ensures) in
    let bits : fitted n (hex_bits digits) ≡ bits_of n c.digits_number-value.result =
    last_bits n digits front last parts c.requires ∙ ap (bits_of n) (sym c.digits_number-value.ensures) in
    ap (λ b. cond b (let e : Result (Option (List Bool)) Cause = Err HexWide in
    e) (Ok (Some (fitted n (hex_bits digits))))) (wide ∙ c.if-has_one_at_or_above-have_one.false)
    ∙ ap (λ b. let e : Result (Option (List Bool)) Cause = Ok (Some b) in e) bits
    ∙ ap (λ p. let e : Result (Option (List Bool)) Cause = Ok p in e) (sym c.of_number.ensures)
