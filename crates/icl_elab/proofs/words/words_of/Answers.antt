use Rattle.std.proofs.Common.{◌∙◌}
use Rattle.std.proofs.lemmas.Result.{err_from_is_err_and}
use Rattle.icl_lexer.specs.Views.{seen_enum_word}
use Rattle.icl_declarations.specs.Tables.{seen_table}
use Rattle.icl_references.specs.Roles.{seen_word}
use Rattle.icl_elab.specs.FoundParts.{word_of}
use Rattle.icl_declarations.specs.Faults.{seen_fault}
use Rattle.icl_declarations.proofs.Each.{round_goes, round_fails}
use Rattle.icl_elab.proofs.words.words_of.Goals as goal

pub returns-in_err-word : goal.returns-in_err-word
returns-in_err-word c =
    let p = err_from_is_err_and c.from_residual.result c.from_residual.ensures.1 in
    let f = word_of (seen_table c.args.params.now) c.args.at c.args.wide in
    rw (p.1, p.2)
    (round_fails seen_enum_word seen_word f c.args.words.now c.loop-word.word-index c.word-item.result
    c.loop-word.all.items (seen_fault c.in_err-word.field-0.0) _ c.loop-word-test.true c.word-item.is
    c.in_err-word.ensures c.loop-word.invariant)

pub loop-word-preserved : goal.loop-word-preserved
loop-word-preserved c =
    let f = word_of (seen_table c.args.params.now) c.args.at c.args.wide in
    round_goes seen_enum_word seen_word f c.args.words.now c.loop-word.word-index c.word-item.result
    c.loop-word.all.items c.push.new.self.items c.in_ok-word.word c.loop-word-test.true c.word-item.is
    c.in_ok-word.ensures c.in_ok-push.ensures.ok
    ∙ c.loop-word.invariant
