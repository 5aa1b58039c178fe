use Rattle.std.proofs.Common.{arith, ap, map, []}
use Rattle.std.specs.Prelude.{length}
use Rattle.std.proofs.lemmas.List.{length-map}
use Rattle.instruments.specs.Seen.{SeenWord, seen_model, seen_word}
use Rattle.net_wave.specs.Vars.{words_of}
use Rattle.net_wave.proofs.Modelled.{word_field}
use Rattle.net_wave.proofs.shapes.word_at.Goals as goal

pub get-requires : goal.get-requires
get-requires c = omega (
  arith,
  c.requires.word,
  ap (length {A = SeenWord}) c.words_at.ensures.words,
  length-map c.words_at.result.now.items seen_word,
)

pub returns-clause-width : goal.returns-clause-width
returns-clause-width c =
    word_field (λ (w : SeenWord). w.width) c.words_at.result.now.items
    (words_of (map seen_model c.args.models.now.items) c.args.inst) c.args.word c.get.result.now 0
    c.words_at.ensures.words (omega (
      arith,
      c.requires.word,
      ap (length {A = SeenWord})
          c.words_at.ensures.words,
      length-map c.words_at.result.now.items seen_word,
    )) c.get.ensures

pub returns-clause-name : goal.returns-clause-name
returns-clause-name c =
    word_field (λ (w : SeenWord). w.name) c.words_at.result.now.items
    (words_of (map seen_model c.args.models.now.items) c.args.inst) c.args.word c.get.result.now
    [] c.words_at.ensures.words (omega (
      arith,
      c.requires.word,
      ap (length {A = SeenWord})
          c.words_at.ensures.words,
      length-map c.words_at.result.now.items seen_word,
    )) c.get.ensures
