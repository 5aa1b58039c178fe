-- What contracts see of the bits of a named thing.
use Rattle.std.specs.Prelude.{List}
use Rattle.net_graph.specs.declared.net.Spot.{Spot}

-- the bits, position 0 first
pub record Spotted : Type 0 where
  pub items : List Spot
