use Rattle.std.proofs.Common.{refl, sym, subst}
use Rattle.nest_check.specs.Flags as flags
use Rattle.nest_check.proofs.Flagging.{with, walks_same, reach_walk, reach_further}
use Rattle.nest_check.proofs.meeting.Walk.reach.Goals as goal

pub returns-in_ok-push-clause-walk : goal.returns-in_ok-push-clause-walk
returns-in_ok-push-clause-walk c =
    let v = flags.walked c.args.self.now in
    let fresh = c.if-meet.ensures.fresh refl in
    let now = walks_same (flags.walked (record { flags = c.meet.new.self; reached = c.push.new.self }))
    (with v c.args.at) fresh.2 c.in_ok-push.ensures.items in
    subst (flags.IsWalk c.args.net.now) (sym now)
    (reach_walk c.args.net.now v c.args.at c.requires.walk c.requires.there c.requires.met fresh.1)

pub returns-in_ok-push-clause-further : goal.returns-in_ok-push-clause-further
returns-in_ok-push-clause-further c =
    let v = flags.walked c.args.self.now in
    let fresh = c.if-meet.ensures.fresh refl in
    let now = walks_same (flags.walked (record { flags = c.meet.new.self; reached = c.push.new.self }))
    (with v c.args.at) fresh.2 c.in_ok-push.ensures.items in
    subst (flags.IsFurther v) (sym now)
    (reach_further c.args.net.now v c.args.at c.requires.walk c.requires.there fresh.1)
