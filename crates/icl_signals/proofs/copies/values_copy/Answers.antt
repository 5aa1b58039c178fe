use Rattle.std.proofs.Common.{sym, ◌∙◌}
use Rattle.std.proofs.lemmas.List.{take_all}
use Rattle.icl_signals.proofs.OneNumber.{terns_back}
use Rattle.icl_signals.proofs.copies.values_copy.Goals as goal

pub returns : goal.returns
returns c =
    let values = c.args.values.now in
    c.loop-value.invariant ∙ take_all c.loop-value.value-index values c.loop-value-test.false
    ∙ sym (terns_back values)
