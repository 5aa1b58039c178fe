-- From the design's modules to the network that is compiled for or played on: the hierarchy, its signals, and
-- the nested form.
use Rattle.std.specs.Prelude.{ℕ, List}
use Rattle.icl_lexer.specs.Values.{SeenModule}
use Rattle.net_graph.specs.declared.device.Device.{Device}
use Rattle.ijtag_stages.specs.Connected.{connected}
use Rattle.ijtag_stages.specs.Elaborated.{elaborated}
use Rattle.ijtag_stages.specs.Nested.{nested}
use Rattle.ijtag_stages.specs.Refusals.{Part}
use Rattle.ijtag_stages.specs.declared.network.Network.{Network}
use Rattle.ijtag_stages.specs.Work.{give, ◌>>=◌}

unfoldable pub network_below : List SeenModule → List ℕ → Device → Part Network
network_below modules top device = do
  cells ← elaborated modules top
  net ← connected cells device
  form ← nested net
  give (record { net = net; form = form })
