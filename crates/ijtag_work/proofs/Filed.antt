-- The SVF text of what is compiled, in its file.
use Rattle.std.proofs.Common.{ℕ, Option, List}
use Rattle.ij_io.specs.Files.{Files}
use Rattle.retargeter.specs.Files.{HoldsScript, HoldsScriptPart}
use Rattle.retargeter.specs.Scripts.{HasScript, ScriptIsRight}
use Rattle.ijtag_work.specs.Filed.{IsFiled, IsPartFiled}
use Rattle.ijtag_work.specs.Accepted.{SeenAccepted}
use Rattle.ijtag_work.specs.Order.{written_text}

module _ (it : SeenAccepted) (text : HasScript it.network.net it.network.form it.device it.steps)
    (right : ScriptIsRight it.network.net it.network.form it.device it.steps) where
  pub has_text : (bytes : List ℕ) × (written_text it).gives bytes
  unfolding written_text
  has_text = (text.0, right text.0 text.1)

  module _ (old new : Option Files) (name : List ℕ) where
    pub is_filed : HoldsScript it.network.net it.network.form it.device it.steps old new name
        → IsFiled (written_text it) old new name
    unfolding has_text
    is_filed holds = record { bytes = has_text.0; given = has_text.1; held = holds text.0 text.1 }

    pub part_filed : HoldsScriptPart it.network.net it.network.form it.device it.steps old new name
        → IsPartFiled (written_text it) old new name
    unfolding has_text
    part_filed holds = record { bytes = has_text.0; given = has_text.1; held = holds text.0 text.1 }
