-- What is looked up in a network.
use Rattle.std.specs.Prelude.{◌≡◌}
use Rattle.net_graph.specs.declared.net.Net.{Net}
use Rattle.pdl_expand.specs.Values.{cells_of}
use Rattle.pdl_expand.specs.Expansion.{dotted_paths}
use Rattle.pdl_targets.specs.declared.index.Index.{Index}
use Rattle.pdl_targets.specs.Captors.{AreCaptors}
use Rattle.pdl_targets.specs.Marked.{AreSelects}

-- an index has the paths of the network's cells, its select bits, and which register bits capture a signal
pub record IsIndex (net : Net) (index : Index) : Type 0 where
  pub cells : index.cells ≡ dotted_paths (cells_of net)
  pub selects : AreSelects net index.selects
  pub captors : AreCaptors net index.captors.slots.items
