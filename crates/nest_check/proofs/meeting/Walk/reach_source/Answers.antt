use Rattle.std.proofs.Common.{◌≡◌, true, sym, subst}
use Rattle.std.specs.Prelude.{OnOk}
use Rattle.nest_check.specs.Flags as flags
use Rattle.nest_check.specs.Meeting.{IsMet, BeforeRegister}
use Rattle.nest_check.proofs.Flagging.{reg_from}
use Rattle.nest_check.proofs.meeting.Walk.reach_source.Goals as goal

pub reach-requires-clause-met : goal.reach-requires-clause-met
reach-requires-clause-met c =
    subst (IsMet c.args.net.now) (reg_from c.args.net.now c.args.reg c.get.result.now c.requires.there
    c.get.ensures) (BeforeRegister c.args.reg c.requires.met)

pub returns-clause-passed : goal.returns-clause-passed
returns-clause-passed c =
    subst (λ p. OnOk c.reach.result (flags.is_flagged (flags.items c.reach.new.self.flags) p ≡ true))
    (sym (reg_from c.args.net.now c.args.reg c.get.result.now c.requires.there c.get.ensures))
    c.reach.ensures.flagged
