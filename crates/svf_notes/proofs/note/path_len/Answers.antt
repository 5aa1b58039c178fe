use Rattle.std.proofs.Common.{◌≡◌, ◌≤◌, ℕ, List, length, ap, sym, ◌∙◌, subst}
use Rattle.net_graph.specs.declared.net.Net.{Net}
use Rattle.net_graph.specs.Chain.{chain}
use Rattle.net_graph.specs.Held.{AreHolds}
use Rattle.net_graph.specs.Path.{route_of}
use Rattle.svf_notes.proofs.Rows.{path_short}
use Rattle.svf_notes.proofs.note.path_len.Goals as goal

pub path_bits-requires-clause-few : goal.path_bits-requires-clause-few
path_bits-requires-clause-few c =
    let net = c.args.net.now in
    let holds = c.holds.result.now in
    let held : AreHolds net holds =
    subst (λ (n : Net). AreHolds n holds) c.requires.net c.holds.ensures.shape in
    let path : c.path.result.now ≡ route_of net holds = c.path.ensures.path
    ∙ ap (λ (n : Net). route_of n c.args.bench.now.state.holds) c.requires.net
    ∙ ap (route_of net) (sym c.holds.ensures.holds) in
    subst (λ (p : List ℕ). length (chain p holds) ≤ 4096) (sym path)
    (path_short net holds c.requires.well_formed held)
