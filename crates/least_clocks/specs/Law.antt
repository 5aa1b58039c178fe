-- No SVF that does what a procedure asks for takes fewer clocks.
use Rattle.std.specs.Prelude.{◌≡◌, ◌≤◌, List, All}
use Rattle.net_graph.specs.declared.device.Device.{Device}
use Rattle.net_graph.specs.declared.net.Net.{Net}
use Rattle.net_graph.specs.SeenSteps.{SeenStep}
use Rattle.net_graph.specs.Steps.{IsStep}
use Rattle.net_tree.specs.Form.{Items, Describes}
use Rattle.headline.specs.Sizes.{clocks}
use Rattle.svf_writer.specs.Fits.{AreFit}
use Rattle.svf_writer.specs.SeenCommands.{SeenCommand}
use Rattle.svf_audit.specs.Audit.{Reading, Yes, audit}
use Rattle.least_clocks.specs.Least.{least_clocks}

-- on every network with its nested form: commands that can be played, and of which the audit says yes for
-- some bit steps, take this many clocks of TCK from power-up on, or more
abbrev pub NoneTakesFewer : Type 0
NoneTakesFewer =
    (net : Net) (form : Items) (device : Device) (steps : List SeenStep)
    (commands : List SeenCommand) (readings : List Reading) →
    Describes net form → All (IsStep net) steps → AreFit commands →
    audit net device steps commands ≡ Yes readings →
    least_clocks net form device steps ≤ clocks commands
