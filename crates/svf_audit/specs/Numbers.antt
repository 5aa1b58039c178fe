-- Bits of a network that can be numbered.
use Rattle.std.specs.Prelude.{◌<◌, ◌^◌, List, length, All}
use Rattle.ij_bits.specs.Different.{AreDifferent}
use Rattle.net_graph.specs.declared.net.BitId.{BitId}
use Rattle.net_graph.specs.declared.net.Net.{Net}
use Rattle.net_graph.specs.Named.{IsBitOf}

-- none is twice, and a number of 32 bits counts them
pub record AreCountable (net : Net) (bits : List BitId) : Type 0 where
  pub few : length bits < 2 ^ 32
  pub there : All (IsBitOf net) bits
  pub once : AreDifferent bits
