use Rattle.std.proofs.Common.{arith}
use Rattle.net_graph.specs.declared.net.Reg.{Reg}
use Rattle.ijtag_stages.proofs.Parts.{got}
use Rattle.ijtag_stages.proofs.net_names.reg_thing.Goals as goal

pub returns-then-reg-len : goal.returns-then-reg-len
returns-then-reg-len c =
    got (λ (r : Reg). r.thing) c.args.net.now.regs.items c.args.reg c.get.result.now 0
    (omega (arith, c.if-reg-len.true, c.len.ensures)) c.get.ensures
