-- Bit steps that are written one after the other, each after a piece.
use Rattle.std.proofs.Common.{◌≡◌, ℕ, Option, Some, List, ◌∷◌, refl, sym, subst}
use Rattle.ij_io.specs.Files.{Files}
use Rattle.net_graph.specs.SeenSteps.{SeenStep}
use Rattle.headline.specs.Script.{step_text}
use Rattle.headline.specs.Retargeting.{scanned_of}
use Rattle.retargeter.specs.Scripts.{WritesStepsPart}
use Rattle.retargeter.specs.Session.{Session}
use Rattle.retargeter.specs.Writing.{IsAfterStep, WritesStep}
use Rattle.retargeter.proofs.Scripts.{Go, go_on, part_so_far}
use Rattle.ij_io.specs.Pieces.{HoldsFront, with_piece}
use Rattle.ij_io.proofs.Pieces.{piece_adds}

module _ (first : Session) (steps : List SeenStep) (old : Option (List ℕ)) (name : List ℕ) (s : Session)
    (left : List SeenStep) (files : Option Files) (piece : List ℕ)
    (go : Go first steps old s left (with_piece files name piece)) where
  -- what the file holds is a first part of the text of all steps
  pub is_part : (now : Option Files) → HoldsFront now name (with_piece files name piece)
      → (text : Option (List ℕ)) × WritesStepsPart first steps old text × HoldsFront now name text
  is_part now h =
      (with_piece files name piece, part_so_far first steps old s left (with_piece files name piece) go, h)

  -- a bit step is written after the piece, and this may have gone to the file
  pub one_more : (step : SeenStep) (later : List SeenStep) (after : Session) (longer next : List ℕ)
      (now : Option Files) → left ≡ step ∷ later
      → WritesStep s step (Some piece) (Some longer) → IsAfterStep s step after
      → with_piece now name next ≡ with_piece files name longer
      → Go first steps old after later (with_piece now name next)
  one_more step later after longer next now e w h same =
      subst (Go first steps old after later) (sym same)
      (go_on first steps old s step later (with_piece files name piece)
      (with_piece files name longer) left after e go
      (λ x p. piece_adds files name piece longer
      (step_text s.device s.applies (scanned_of s.net s.holds x)) (w x p)) h)
