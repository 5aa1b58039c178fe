use Rattle.std.proofs.Common.{sym, ◌∙◌}
use Rattle.net_wave.proofs.Quiet.{all_quiet}
use Rattle.net_wave.proofs.shown.vars_to_check.Goals as goal

pub returns-clause-rest : goal.returns-clause-rest
returns-clause-rest c =
    all_quiet c.args.vars.now c.args.pins c.args.shifts c.args.before.now c.args.now.now c.requires.pins
    c.requires.shifts (sym c.has_instrument_event.ensures ∙ c.if-has_instrument_event.false)
    (sym c.moves_stages.ensures ∙ c.if-moves_stages.false)
