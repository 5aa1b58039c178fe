use Rattle.std.proofs.Common.{◌≤◌, ◌∷◌, [], length, arith, ap, sym, ◌∙◌, refl, false}
use Rattle.std.specs.Prelude.{◌==◌}
use Rattle.std.proofs.lemmas.Bool.Decides.{nat_tests}
use Rattle.svf_reader.specs.Commands.{after_hex, hex_digits}
use Rattle.svf_reader.specs.Reading.{words_of}
use Rattle.svf_reader.proofs.Lone.{digits_front, after_alone, hex_alone}
use Rattle.svf_reader.proofs.grammar.gapless_hex.Goals as goal

pub returns-clause-rest : goal.returns-clause-rest
returns-clause-rest c =
    let digits = c.split_at.result.0.now in
    let some : 1 ≤ length digits = grind (arith, nat_tests) in
    let all = sym c.all_hex.ensures ∙ c.if-not-all_hex.false in
    let words = digits_front c.args.text.now digits c.split_at.result.1.now c.split_at-2.result.1.now
    c.long_run_len-n.result c.long_run_len-n.ensures.value c.split_at.ensures.front
    c.split_at.ensures.back c.split_at-2.ensures.back some all (ap (λ b. b == 41) (sym c.byte_at.ensures)
    ∙ sym c.is_close_byte.ensures ∙ c.if-not-is_close_byte.false) in
    sym (ap (after_hex false) words
    ∙ after_alone digits (41 ∷ []) (words_of c.split_at-2.result.1.now) all refl)

pub returns-clause-digits : goal.returns-clause-digits
returns-clause-digits c =
    let digits = c.split_at.result.0.now in
    let some : 1 ≤ length digits = grind (arith, nat_tests) in
    let all = sym c.all_hex.ensures ∙ c.if-not-all_hex.false in
    let words = digits_front c.args.text.now digits c.split_at.result.1.now c.split_at-2.result.1.now
    c.long_run_len-n.result c.long_run_len-n.ensures.value c.split_at.ensures.front
    c.split_at.ensures.back c.split_at-2.ensures.back some all (ap (λ b. b == 41) (sym c.byte_at.ensures)
    ∙ sym c.is_close_byte.ensures ∙ c.if-not-is_close_byte.false) in
    sym (ap hex_digits words ∙ hex_alone digits (41 ∷ []) (words_of c.split_at-2.result.1.now) all refl)
