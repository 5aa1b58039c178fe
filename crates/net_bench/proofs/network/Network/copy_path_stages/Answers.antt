use Rattle.std.proofs.Common.{ap, sym, ◌∙◌, length, List, ℕ, subst}
use Rattle.net_graph.specs.Chain.{IsRoute, chain}
use Rattle.net_bench.proofs.Packing.{copied, fits_in, route_for}
use Rattle.net_bench.proofs.network.Network.copy_path_stages.Goals as goal

pub unload_path-requires-clause-route : goal.unload_path-requires-clause-route
unload_path-requires-clause-route c =
    subst (IsRoute (length c.args.into.now)) (sym c.as_slice.ensures)
    (route_for c.args.self.now c.args.into.now c.requires.packed c.requires.shape)

pub unload_path-requires-clause-fits : goal.unload_path-requires-clause-fits
unload_path-requires-clause-fits c =
    fits_in c.args.self.now c.args.into.now c.requires.packed c.requires.shape
    ∙ ap (λ (p : List ℕ). length (chain p c.args.into.now)) (sym c.as_slice.ensures)

pub returns : goal.returns
returns c =
    copied c.args.self.now c.as_slice.result.now c.unload_path.new.into c.args.into.now
    c.requires.packed c.as_slice.ensures c.unload_path.ensures
