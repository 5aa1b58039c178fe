use Rattle.std.proofs.Common.{◌≡◌, subst, ℕ, List, [], arith}
use Rattle.std.specs.Prelude.{IfOk}
use Rattle.net_graph.specs.declared.net.Thing.{Thing}
use Rattle.ijtag_stages.specs.NetNames.{name_in}
use Rattle.ijtag_stages.proofs.Parts.{got}
use Rattle.ijtag_stages.proofs.net_names.thing_name.Goals as goal

pub returns-then-thing-len : goal.returns-then-thing-len
returns-then-thing-len c =
    subst (λ (t : List ℕ). IfOk c.name_in.result (λ r. r.items ≡ t))
    (got (λ (p : Thing). name_in c.args.net.now p.node p.name.items)
    c.args.net.now.things.items c.args.thing c.get-thing.result.now []
    (omega (arith, c.if-thing-len.true, c.len.ensures)) c.get-thing.ensures) c.name_in.ensures
