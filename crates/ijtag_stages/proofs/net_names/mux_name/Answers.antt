use Rattle.std.proofs.Common.{◌≡◌, subst, ℕ, List, [], arith}
use Rattle.std.specs.Prelude.{IfOk}
use Rattle.net_graph.specs.declared.net.Mux.{Mux}
use Rattle.ijtag_stages.specs.NetNames.{name_in}
use Rattle.ijtag_stages.proofs.Parts.{got}
use Rattle.ijtag_stages.proofs.net_names.mux_name.Goals as goal

pub returns-then-mux-len : goal.returns-then-mux-len
returns-then-mux-len c =
    subst (λ (t : List ℕ). IfOk c.name_in.result (λ r. r.items ≡ t))
    (got (λ (p : Mux). name_in c.args.net.now p.node p.name.items)
    c.args.net.now.muxes.items c.args.mux c.get-mux.result.now []
    (omega (arith, c.if-mux-len.true, c.len.ensures)) c.get-mux.ensures) c.name_in.ensures
