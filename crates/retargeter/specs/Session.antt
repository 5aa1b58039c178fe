-- A retargeter between two bit steps, as contracts see it.
use Rattle.std.specs.Prelude.{ℕ}
use Rattle.net_graph.specs.declared.device.Device.{Device}
use Rattle.net_graph.specs.declared.net.Net.{Net}
use Rattle.net_graph.specs.Devices.{IsDevice}
use Rattle.net_graph.specs.Signals.{Holds}
use Rattle.net_tree.specs.Form.{Items}
use Rattle.path_planner.specs.Scannable.{IsScannable}
use Rattle.headline.specs.Retargeting.{IsRetargetable}

pub record Session : Type 0 where
  pub net : Net
  pub form : Items
  pub device : Device
  -- what the update stages hold before the next step
  pub holds : Holds
  -- how many iApplys were written
  pub applies : ℕ

-- a network that can be compiled for, in a device, with update stages that it can be scanned in
pub record IsReady (s : Session) : Type 0 where
  pub network : IsRetargetable s.net s.form
  pub device : IsDevice s.device
  pub scannable : IsScannable s.net s.holds
