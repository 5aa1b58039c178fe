use Rattle.std.proofs.Common.{ap, sym, ◌∙◌, ◌∷◌}
use Rattle.svf_reader.specs.Commands.{hex_digits}
use Rattle.svf_reader.specs.Reading.{words_of}
use Rattle.svf_reader.proofs.Lone.{hex_alone}
use Rattle.svf_reader.proofs.grammar.hex_text.Goals as goal

pub returns-then-is_close-clause-digits : goal.returns-then-is_close-clause-digits
returns-then-is_close-clause-digits c =
    let first = c.in_ok-first.first.piece.now in
    let end = c.in_ok-end.end.piece.now in
    let rest = words_of c.in_ok-end.end.rest.now in
    sym (ap hex_digits c.in_ok-first.ensures.value
    ∙ ap (λ ws. hex_digits (first ∷ ws)) c.in_ok-end.ensures.value
    ∙ hex_alone first end rest (sym c.all_hex.ensures ∙ c.if-not-all_hex.false)
    (sym c.is_close.ensures ∙ c.if-is_close.true))
