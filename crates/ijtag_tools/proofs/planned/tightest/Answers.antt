use Rattle.std.specs.Prelude.{IfSome}
use Rattle.std.proofs.Common.{subst, Option}
use Rattle.ijtag_work.specs.Accepted.{SeenAccepted}
use Rattle.ijtag_work.specs.Using.{seen_accepted}
use Rattle.ijtag_tools.specs.Planned.{IsSound}
use Rattle.ijtag_tools.specs.declared.planned.Planned.{Planned}
use Rattle.ijtag_tools.proofs.Choosing.{other, own}
use Rattle.ijtag_tools.proofs.planned.tightest.Goals as goal

pub returns-then-is_within : goal.returns-then-is_within
returns-then-is_within c =
    let it : SeenAccepted = seen_accepted c.args.it.now in
    let sound : IsSound it c.in-Some.planned =
    subst (λ (found : Option Planned). IfSome found (IsSound it)) c.in-Some.is c.in_ok-planned.ensures in
    other it c.in_ok-compiled.compiled c.in-Some.planned c.in_ok-least.least c.in_ok-least.ensures
    c.in_ok-compiled.ensures sound (c.is_within.ensures.0 c.if-is_within.true).0
    (c.is_within.ensures.0 c.if-is_within.true).1

pub returns : goal.returns
returns c =
    own (seen_accepted c.args.it.now) c.in_ok-compiled.compiled c.in_ok-least.least
    c.in_ok-least.ensures c.in_ok-compiled.ensures
