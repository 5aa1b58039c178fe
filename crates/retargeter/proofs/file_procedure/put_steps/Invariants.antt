-- What is written so far, whatever the plans of the steps are: what the file holds, with the piece after it.
use Rattle.std.proofs.Common.{◌≤◌, ◌<◌, ◌+◌, ◌^◌, ◌≢◌, ◌≡◌, ℕ, List, length}
use Rattle.std.specs.Prelude.{All}
use Rattle.ij_io.specs.Causes.{SameCounts}
use Rattle.ij_io.specs.Files.{OthersStay}
use Rattle.pdl_targets.specs.Laws.{rounds_in}
use Rattle.headline.specs.Rounds.{StepIsPlannable}
use Rattle.retargeter.proofs.Scripts.{Go}
use Rattle.ij_io.specs.Pieces.{IsThere, with_piece}
use Rattle.ij_io.proofs.Later.{Later}
use Rattle.retargeter.proofs.file_procedure.put_steps.Given as goal

abbrev pub invariant-loop-piece : goal.invariant-loop-piece
invariant-loop-piece g l =
    record {
      go : Go l.fn.session l.fn.steps.steps (with_piece (g.S.Shelf.files l.fn.shelf) l.fn.name l.fn.piece)
          l.session l.steps.steps (with_piece (g.S.Shelf.files l.shelf) l.fn.name l.piece);
      there : IsThere (g.S.Shelf.files l.shelf) l.fn.name;
      plannable : All (StepIsPlannable l.session.net l.session.form) l.steps.steps;
      rounds : rounds_in l.steps.steps ≤ 4096;
      few : l.session.applies + length l.steps.steps < 2 ^ 32;
      others : OthersStay (g.S.Shelf.files l.fn.shelf) (g.S.Shelf.files l.shelf) l.fn.name;
      later : Later l.fn.name (g.S.Shelf.store_faults l.fn.shelf) (g.S.Shelf.store_faults l.shelf);
      loads : SameCounts (g.S.Shelf.load_faults l.fn.shelf) (g.S.Shelf.load_faults l.shelf);
    }

abbrev pub decreases-loop-piece : goal.decreases-loop-piece
decreases-loop-piece g l = length l.steps.steps
