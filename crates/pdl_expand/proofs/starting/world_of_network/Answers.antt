use Rattle.std.proofs.Common.{map, subst, sym}
use Rattle.ij_text.specs.Numbering.{AreDistinct}
use Rattle.pdl_expand.specs.Values.{cell_of}
use Rattle.pdl_expand.specs.Expansion.{dotted_paths}
use Rattle.pdl_expand.proofs.Paths.{paths_differ}
use Rattle.pdl_expand.proofs.starting.world_of_network.Goals as goal

pub dotted_paths-requires-clause-distinct : goal.dotted_paths-requires-clause-distinct
dotted_paths-requires-clause-distinct c = subst (λ nodes. AreDistinct (dotted_paths (map cell_of nodes)))
    (sym c.as_slice.ensures) (paths_differ c.args.net.now c.requires.net)
