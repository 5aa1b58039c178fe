-- The SVF file of a procedure's bit steps (Serial Vector Format, revision E).
use Rattle.std.specs.Prelude.{◌≡◌, ℕ, Option, Some, List}
use Rattle.std.specs.Option.{option_map}
use Rattle.ij_io.specs.Files.{Files, file_at}
pub use Rattle.ij_io.specs.Pieces.{HoldsPart}
use Rattle.net_graph.specs.declared.device.Device.{Device}
use Rattle.net_graph.specs.declared.net.Net.{Net}
use Rattle.net_graph.specs.SeenSteps.{SeenStep}
use Rattle.net_tree.specs.Form.{Items}
use Rattle.retargeter.specs.Scripts.{IsScript}

module _ (net : Net) (form : Items) (device : Device) (steps : List SeenStep)
    (old new : Option Files) (name : List ℕ) where
  -- the file holds the text of the script of plans for the bit steps, whatever these plans are
  abbrev pub HoldsScript : Type 0
  HoldsScript = (bytes : List ℕ) → IsScript net form device steps bytes
      → file_at new name ≡ option_map (λ _. Some bytes) old

  -- it is as before, or holds some first bytes of this text
  abbrev pub HoldsScriptPart : Type 0
  HoldsScriptPart = (bytes : List ℕ) → IsScript net form device steps bytes → HoldsPart old new name bytes
