-- The active path of a network with what it holds, and room for it.
use Rattle.std.specs.Prelude.{◌≡◌, Some, length, reverse}
use Rattle.net_graph.specs.Chain.{chain}
use Rattle.net_graph.specs.declared.net.Net.{Net}
use Rattle.net_graph.specs.Path.{path as scan_path}
use Rattle.net_graph.specs.Signals.{Holds}
use Rattle.net_tree.specs.Routes.{HasRoom}
use Rattle.scan_packer.specs.declared.held_path.HeldPath.{HeldPath}
use Rattle.scan_packer.specs.Flushed.{scan_bits}
use Rattle.scan_packer.specs.Packing.{HasBitRoom}
use Rattle.scan_packer.specs.Started.{AreStarts}

-- the active path of what the update stages hold, where its registers begin, and its bits
pub record IsHeldPath (net : Net) (holds : Holds) (held : HeldPath) : Type 0 where
  pub path : scan_path net holds ≡ Some held.route.items
  pub starts : AreStarts net held.route.items held.starts.items
  pub bits : held.bits.items ≡ chain (reverse held.route.items) holds
  pub all : held.scan_bits ≡ scan_bits net

-- room for any path of a network
pub record HasPathRoom (net : Net) (held : HeldPath) : Type 0 where
  pub route : HasRoom net held.route
  pub starts : length held.starts.items ≡ length net.regs.items
  pub bits : HasBitRoom net held.bits
  pub all : held.scan_bits ≡ scan_bits net
