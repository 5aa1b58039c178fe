-- Each stage comes to one end: what it gives is one value, and then nothing is refused; and a refusal is one.
use Rattle.std.specs.Prelude.{◌≡◌, ◌≤◌, ℕ, List, length, Ok}
use Rattle.svf_writer.specs.SeenCommands.{SeenCommand}
use Rattle.svf_reader.specs.Meaning.{svf}
use Rattle.tap_machine.specs.declared.Stable.TheVariants.{Reset as InReset}
use Rattle.tap_machine.specs.Play.{pins, scans_in}
use Rattle.net_graph.specs.declared.device.Device.{Device}
use Rattle.net_graph.specs.declared.net.Net.{Net}
use Rattle.icl_lexer.specs.Values.{SeenModule}
use Rattle.pdl_parser.specs.Values.{AProc}
use Rattle.table_file.specs.Tables.{SeenTable}
use Rattle.ijtag_stages.specs.DeviceText.{device_text}
use Rattle.ijtag_stages.specs.Fitted.{models_of}
use Rattle.ijtag_stages.specs.IclText.{icl_text}
use Rattle.ijtag_stages.specs.Networks.{network_below}
use Rattle.ijtag_stages.specs.declared.network.Network.{Network}
use Rattle.ijtag_stages.specs.PdlText.{pdl_text}
use Rattle.ijtag_stages.specs.Procedure.{procedure}
use Rattle.ijtag_stages.specs.SvfText.{svf_text}
use Rattle.ijtag_stages.specs.TablesText.{tables_text}
use Rattle.ijtag_stages.specs.Work.{IsDecided, IsTotal}

pub record StagesAreDecided : Type 0 where
  pub icl : (text : List ℕ) → IsDecided (icl_text text)
  pub device : (text : List ℕ) → IsDecided (device_text text)
  pub tables : (text : List ℕ) → IsDecided (tables_text text)
  pub svf : (text : List ℕ) → IsDecided (svf_text text)
  pub network : (modules : List SeenModule) (top : List ℕ) (of : Device)
      → IsDecided (network_below modules top of)
  pub fit : (net : Net) (tables : List SeenTable) → IsDecided (models_of net tables)
  pub pdl : (text : List ℕ) → IsDecided (pdl_text text)
  pub procedure : (procs : List AProc) (network : Network) (name : List ℕ)
      → IsDecided (procedure procs network name)

-- and each stage comes to an end: a text, or what was made of it, is accepted or refused. (A network that is
-- made of a text is looked at where the text is one that a file may have.)
pub record StagesAreTotal : Type 0 where
  pub icl : (text : List ℕ) → IsTotal (icl_text text)
  pub device : (text : List ℕ) → IsTotal (device_text text)
  pub tables : (text : List ℕ) → IsTotal (tables_text text)
  pub svf : (text : List ℕ) → IsTotal (svf_text text)
  pub network : (text : List ℕ) (modules : List SeenModule) (top : List ℕ) (of : Device)
      → length text ≤ 134217728 → (icl_text text).gives modules → IsTotal (network_below modules top of)
  pub fit : (net : Net) (tables : List SeenTable) → IsTotal (models_of net tables)
  pub pdl : (text : List ℕ) → IsTotal (pdl_text text)
  pub procedure : (procs : List AProc) (network : Network) (name : List ℕ)
      → IsTotal (procedure procs network name)

-- what is read of an SVF text can be played in a number of clocks that is counted
abbrev pub ReadCommandsArePlayable : Type 0
ReadCommandsArePlayable =
    (src : List ℕ) (cs : List SeenCommand) → svf src ≡ Ok cs
    → (length (pins InReset 0 cs) ≤ 1000000000) × (scans_in cs ≤ 1000000000)
