use Rattle.std.proofs.Common.{◌≡◌, ◌≤◌, ◌∷◌, List, ℕ, ap, sym, ◌∙◌, arith, length, drop}
use Rattle.std.proofs.lemmas.List.{nil_from_length}
use Rattle.std.proofs.lemmas.Bool.Decides.{nat_tests}
use Rattle.svf_reader.specs.Reading.{words_of}
use Rattle.svf_reader.specs.Texts.{plain}
use Rattle.svf_reader.proofs.Lexing.{next_word_is, no_words, after_is}
use Rattle.svf_reader.proofs.pieces.next_word.Goals as goal

pub returns-then-is_empty-clause-value : goal.returns-then-is_empty-clause-value
returns-then-is_empty-clause-value c =
    let none : length c.skip_gap-text.result.now ≡ 0 = grind (arith, nat_tests) in
    c.skip_gap-text.ensures.words ∙ ap words_of (nil_from_length c.skip_gap-text.result.now none) ∙ no_words

pub returns-clause-value : goal.returns-clause-value
returns-clause-value c =
    let text = c.skip_gap-text.result.now in
    let some : 1 ≤ length text = grind (arith, nat_tests) in
    let front =
    next_word_is text c.word_len.result some c.skip_gap-text.ensures.stops c.word_len.ensures.value in
    c.skip_gap-text.ensures.words ∙ front.is
    ∙ ap (λ (w : List ℕ). w ∷ words_of (drop c.word_len.result text)) (sym c.split_at.ensures.front)
    ∙ ap (λ (r : List ℕ). c.split_at.result.0.now ∷ words_of r) (sym c.split_at.ensures.back)

pub returns-clause-after : goal.returns-clause-after
returns-clause-after c =
    let text = c.skip_gap-text.result.now in
    c.skip_gap-text.ensures.after
    ∙ after_is text c.word_len.result c.skip_gap-text.ensures.stops c.word_len.ensures.value
    ∙ ap plain (sym c.split_at.ensures.back)

pub returns-clause-shorter : goal.returns-clause-shorter
returns-clause-shorter c =
    let text = c.skip_gap-text.result.now in
    let some : 1 ≤ length text = grind (arith, nat_tests) in
    let front =
    next_word_is text c.word_len.result some c.skip_gap-text.ensures.stops c.word_len.ensures.value in
    omega (arith, front.some, c.skip_gap-text.ensures.shorter, c.split_at.ensures.back_len)
