use Rattle.std.proofs.Common.{◌≡◌, subst, ℕ, List, [], arith}
use Rattle.std.specs.Prelude.{IfOk}
use Rattle.net_graph.specs.declared.net.Inst.{Inst}
use Rattle.ijtag_stages.specs.NetNames.{node_name}
use Rattle.ijtag_stages.proofs.Parts.{got}
use Rattle.ijtag_stages.proofs.net_names.inst_name.Goals as goal

pub returns-then-inst-len : goal.returns-then-inst-len
returns-then-inst-len c =
    subst (λ (t : List ℕ). IfOk c.node_name.result (λ r. r.items ≡ t))
    (got (λ (p : Inst). node_name c.args.net.now p.node)
    c.args.net.now.insts.items c.args.inst c.get.result.now []
    (omega (arith, c.if-inst-len.true, c.len.ensures)) c.get.ensures) c.node_name.ensures
