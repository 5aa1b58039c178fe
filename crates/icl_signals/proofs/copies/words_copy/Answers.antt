use Rattle.std.proofs.Common.{sym, ◌∙◌}
use Rattle.std.proofs.lemmas.List.{take_all}
use Rattle.icl_signals.proofs.OneNumber.{words_back}
use Rattle.icl_signals.proofs.copies.words_copy.Goals as goal

pub returns : goal.returns
returns c =
    let words = c.as_slice-word-items.result.now in
    c.loop-word.invariant ∙ take_all c.loop-word.word-index words c.loop-word-test.false
    ∙ c.as_slice-word-items.ensures ∙ sym (words_back c.args.part.now.words.items)
