-- What the texts of a command are accepted as. Every command accepts its texts in this one order, each of
-- them where the command has it: the lines of a `do` block are done in turn, and the first that refuses
-- decides.
use Rattle.std.specs.Prelude.{ℕ, List, [], Option, Some, None, unwrap_or}
use Rattle.instruments.specs.Seen.{SeenModel}
use Rattle.net_graph.specs.declared.device.Device.{Device}
use Rattle.net_graph.specs.SeenSteps.{SeenStep}
use Rattle.svf_writer.specs.SeenCommands.{SeenCommand}
use Rattle.ijtag_stages.specs.DeviceText.{device_text}
use Rattle.ijtag_stages.specs.Fitted.{models_of}
use Rattle.ijtag_stages.specs.IclText.{icl_text}
use Rattle.ijtag_stages.specs.Networks.{network_below}
use Rattle.ijtag_stages.specs.declared.network.Network.{Network}
use Rattle.ijtag_stages.specs.PdlText.{pdl_text}
use Rattle.ijtag_stages.specs.Procedure.{procedure}
use Rattle.ijtag_stages.specs.Refusals.{Part}
use Rattle.ijtag_stages.specs.SvfText.{svf_text}
use Rattle.ijtag_stages.specs.TablesText.{tables_text}
use Rattle.ijtag_stages.specs.Work.{give, never, ◌>>=◌}

-- the texts of a command by what they are, with the top module's name and the procedure's; a text that the
-- command hasn't is None
pub record Texts : Type 0 where
  pub icl : List ℕ
  pub device : List ℕ
  pub tables : Option (List ℕ)
  pub svf : Option (List ℕ)
  pub top : List ℕ
  pub pdl : Option (List ℕ)
  pub procedure : List ℕ

-- what they are accepted as: without tables no models, without SVF no text of it and no commands, without PDL
-- no steps
pub record SeenAccepted : Type 0 where
  pub network : Network
  pub device : Device
  pub models : List SeenModel
  pub svf : List ℕ
  pub commands : List SeenCommand
  pub steps : List SeenStep

-- what is done where there is something to do it on
unfoldable pub if_given : {T A : Type 0} → Option T → (T → Part A) → Part (Option A)
if_given None part = give None
if_given (Some it) part = do
  a ← part it
  give (Some a)

-- a list that there may be
abbrev pub listed : {A : Type 0} → Option (List A) → List A
listed items = unwrap_or items []

-- the bit steps of the procedure of this name, up to its end
unfoldable pub followed : Network → List ℕ → List ℕ → Part (List SeenStep)
followed network name pdl = do
  procs ← pdl_text pdl
  procedure procs network name

unfoldable pub accepted : Texts → Part SeenAccepted
accepted texts = do
  modules ← icl_text texts.icl
  device ← device_text texts.device
  tables ← if_given texts.tables tables_text
  commands ← if_given texts.svf svf_text
  network ← network_below modules texts.top device
  models ← if_given tables (models_of network.net)
  steps ← if_given texts.pdl (followed network texts.procedure)
  give (record {
    network = network;
    device = device;
    models = listed models;
    svf = listed texts.svf;
    commands = listed commands;
    steps = listed steps;
  })

abbrev pub accepted_of : Option Texts → Part SeenAccepted
accepted_of None = never
accepted_of (Some texts) = accepted texts
