use Rattle.std.proofs.Common.{◌∙◌}
use Rattle.net_list.proofs.Pieces.{start_route, start_short}
use Rattle.net_list.proofs.totals.start_path_bits.Goals as goal

pub path_bits-requires-clause-route : goal.path_bits-requires-clause-route
path_bits-requires-clause-route c =
    start_route c.args.net.now c.in_ok-start.start c.as_slice.result.now c.requires c.in_ok-start.ensures
    (c.as_slice.ensures ∙ c.find_path.ensures.path)

pub path_bits-requires-clause-few : goal.path_bits-requires-clause-few
path_bits-requires-clause-few c =
    start_short c.args.net.now c.in_ok-start.start c.as_slice.result.now c.requires c.in_ok-start.ensures
    (c.as_slice.ensures ∙ c.find_path.ensures.path)
