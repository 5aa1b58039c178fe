-- The whole script in a file.
use Rattle.std.proofs.Common.{◌≡◌, ◌⊎◌, inl, ℕ, Option, Some, List, [], refl, sym, subst}
use Rattle.std.specs.Option.{option_map}
use Rattle.ij_io.specs.Bytes.{Adds}
use Rattle.ij_io.specs.Files.{Files, file_at, told_bytes}
use Rattle.net_graph.specs.declared.device.Device.{Device}
use Rattle.net_graph.specs.declared.net.Net.{Net}
use Rattle.net_graph.specs.Resets.{start_holds}
use Rattle.net_graph.specs.SeenSteps.{SeenStep}
use Rattle.net_tree.specs.Form.{Items}
use Rattle.svf_writer.specs.Written.{preface}
use Rattle.retargeter.specs.Scripts.{WritesSteps, WritesStepsPart}
use Rattle.retargeter.specs.Session.{Session}
use Rattle.retargeter.proofs.Scripts.{script_part, script_written}
use Rattle.retargeter.specs.Files.{HoldsScript, HoldsScriptPart}
use Rattle.ij_io.specs.Pieces.{HoldsFront, IsThere, with_piece}
use Rattle.ij_io.proofs.Pieces.{all_held, begin_part, first_piece, nothing, part_held}

module _ (net : Net) (form : Items) (device : Device) (steps : List SeenStep)
    (old : Option Files) (name : List ℕ) where
  pub stays : HoldsScriptPart net form device steps old old name
  stays bytes is = inl refl

  pub begun_part : (new : Option Files)
      → ((file_at new name ≡ file_at old name) ⊎ (file_at new name ≡ option_map (λ f. Some []) old))
      → HoldsScriptPart net form device steps old new name
  begun_part new h bytes is = begin_part old new name bytes h

  module _ (s : Session) (begun : Option Files) (piece : List ℕ)
      (start : s ≡ record { net = net; form = form; device = device; holds = start_holds net; applies = 0 })
      (front : Adds (Some []) (Some piece) (preface device))
      (empty : file_at begun name ≡ option_map (λ f. Some []) old) (new : Option Files) where
    pub part_of : ((text : Option (List ℕ)) × WritesStepsPart s steps (with_piece begun name piece) text
        × HoldsFront new name text) → HoldsScriptPart net form device steps old new name
    part_of (text, part, held) bytes is =
        part_held old new name bytes text
        (script_part net form device steps s (nothing old) (with_piece begun name piece) text start
        (first_piece old begun name piece (preface device) front empty) part bytes is) held

    pub all_of : WritesSteps s steps (with_piece begun name piece) (told_bytes new name) → IsThere new name
        → HoldsScript net form device steps old new name
    all_of whole there bytes is =
        all_held old new name bytes there (script_written net form device steps s (nothing old)
        (with_piece begun name piece) (told_bytes new name) start
        (first_piece old begun name piece (preface device) front empty) whole bytes is)
