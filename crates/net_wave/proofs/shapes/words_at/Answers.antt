use Rattle.std.proofs.Common.{sym, arith}
use Rattle.std.proofs.lemmas.List.{length-map}
use Rattle.instruments.specs.Seen.{seen_word}
use Rattle.net_wave.proofs.Modelled.{model_is, words_is, words_narrow}
use Rattle.net_wave.proofs.shapes.words_at.Goals as goal

pub returns-clause-words : goal.returns-clause-words
returns-clause-words c =
    sym (words_is c.args.models.now.items c.args.inst c.get.result.now c.requires.there c.get.ensures)

pub returns-clause-few : goal.returns-clause-few
returns-clause-few c =
    let m = model_is c.args.models.now.items c.args.inst c.get.result.now
    c.requires.models c.requires.there c.get.ensures in
    omega (arith, m.few_words, length-map c.get.result.now.words.items seen_word)

pub returns-clause-widths : goal.returns-clause-widths
returns-clause-widths c =
    words_narrow c.get.result.now.words.items (model_is c.args.models.now.items c.args.inst c.get.result.now
    c.requires.models c.requires.there c.get.ensures).words
