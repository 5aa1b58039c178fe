use Rattle.std.proofs.Common.{◌≡◌, length, ap, sym, ◌∙◌, subst}
use Rattle.net_graph.specs.declared.net.Net.{Net}
use Rattle.net_graph.specs.Chain.{IsRoute}
use Rattle.net_graph.specs.Held.{AreHolds}
use Rattle.net_graph.specs.Nets.{IsNet}
use Rattle.net_graph.specs.Path.{route_of}
use Rattle.net_graph.proofs.Routes.{route_is}
use Rattle.svf_notes.proofs.note.put_path.Goals as goal

pub put_rows-requires-clause-well_formed : goal.put_rows-requires-clause-well_formed
put_rows-requires-clause-well_formed c = subst IsNet (sym c.requires.heads) c.requires.well_formed

pub put_rows-requires-clause-holds : goal.put_rows-requires-clause-holds
put_rows-requires-clause-holds c =
    subst (λ (n : Net). AreHolds n c.holds.result.now)
    (c.requires.net ∙ sym c.requires.heads) c.holds.ensures.shape

pub put_rows-requires-clause-route : goal.put_rows-requires-clause-route
put_rows-requires-clause-route c =
    let net = c.args.net.now in
    let holds = c.args.bench.now.state.holds in
    let path : c.path.result.now ≡ route_of net holds =
    c.path.ensures.path ∙ ap (λ (n : Net). route_of n holds) c.requires.net in
    subst (λ (n : Net). IsRoute (length n.regs.items) c.path.result.now) (sym c.requires.heads)
    (subst (IsRoute (length net.regs.items)) (sym path) (route_is net holds c.requires.well_formed))
