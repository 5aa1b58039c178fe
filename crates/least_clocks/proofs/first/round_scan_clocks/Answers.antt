use Rattle.std.proofs.Common.{◌∙◌, length, subst, sym}
use Rattle.net_graph.specs.Chain.{IsRoute}
use Rattle.net_graph.specs.Resets.{start_holds}
use Rattle.net_graph.proofs.Routes.{route_is}
use Rattle.least_clocks.proofs.first.round_scan_clocks.Goals as goal

pub bits_along-first-requires-clause-route : goal.bits_along-first-requires-clause-route
bits_along-first-requires-clause-route c =
    let net = c.args.net.now in
    subst (IsRoute (length net.regs.items)) (sym (c.as_slice.ensures ∙ c.in_ok-path.ensures))
    (route_is net (start_holds net) c.requires.net)
