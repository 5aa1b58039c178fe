use Rattle.ijtag_stages.proofs.Deciding.{stages_decided}
use Rattle.ijtag_stages.proofs.laws.stages_are_decided.Goals as goal

pub returns : goal.returns
returns c =
    let forms = c.one_form_law.ensures in
    stages_decided forms.one_form forms.one_cause forms.lawful_has_none c.procedures_are_one.ensures
    c.refusals_are_one-2.ensures.none c.refusals_are_one-2.ensures.one c.tokenization_is_unique.ensures
    c.texts_are_cut_or_at_fault.ensures.not_both c.texts_are_cut_or_at_fault.ensures.one
    c.designs_are_one.ensures c.refusals_are_one.ensures.none c.refusals_are_one.ensures.one
