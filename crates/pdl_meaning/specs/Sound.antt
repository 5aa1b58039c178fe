-- Register bits and instruments that belong to a network.
use Rattle.std.specs.Prelude.{List}
use Rattle.instruments.specs.declared.model.Model.{Model}
use Rattle.net_graph.specs.Held.{AreHolds}
use Rattle.net_graph.specs.Nets.{IsNet}
use Rattle.net_graph.specs.Signals.{Holds}
use Rattle.net_graph.specs.declared.net.Net.{Net}
use Rattle.instruments.specs.Runners.{AreRunning}
use Rattle.instruments.specs.declared.runner.Runner.{Runner}

-- each register has its bits, and each instrument was shown what they drive
pub record IsState (net : Net) (models : List Model) (holds : Holds) (runners : List Runner) : Type 0 where
  pub well_formed : IsNet net
  pub shape : AreHolds net holds
  pub running : AreRunning net models holds runners
