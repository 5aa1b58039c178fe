use Rattle.std.proofs.Common.{sym, subst}
use Rattle.net_graph.specs.Held.{AreHolds}
use Rattle.net_graph.proofs.Widths.{start_held}
use Rattle.icl_tests.proofs.update_stages.power_up.Goals as goal

pub returns-in-Ok : goal.returns-in-Ok
returns-in-Ok c =
    record { held = subst (AreHolds c.args.net.now) (sym c.in-Ok.ensures) (start_held c.args.net.now) }
