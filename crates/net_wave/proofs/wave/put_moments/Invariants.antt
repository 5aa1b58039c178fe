-- what is written so far, in the file and then in the piece, and what is left of the moments
use Rattle.std.proofs.Common.{◌≡◌}
use Rattle.ij_io.specs.Causes.{SameCounts}
use Rattle.ij_io.specs.Files.{OthersStay}
use Rattle.ij_io.specs.Pieces.{IsThere, with_piece}
use Rattle.ij_io.proofs.Fronts.{AddsFront}
use Rattle.ij_io.proofs.Later.{Later}
use Rattle.net_wave.specs.Left.{IsPlaying, left_text, some_differs}
use Rattle.net_wave.proofs.wave.put_moments.Given as goal

abbrev pub invariant-loop-piece : goal.invariant-loop-piece
invariant-loop-piece g l =
    record {
      playing : IsPlaying l.playing;
      differs : some_differs l.playing ≡ some_differs l.fn.playing;
      front : AddsFront (with_piece (g.S.Shelf.files l.fn.shelf) l.name l.fn.piece) (with_piece
          (g.S.Shelf.files l.shelf) l.name l.piece) (left_text l.playing) (left_text l.fn.playing);
      there : IsThere (g.S.Shelf.files l.shelf) l.name;
      others : OthersStay (g.S.Shelf.files l.fn.shelf) (g.S.Shelf.files l.shelf) l.name;
      later : Later l.name (g.S.Shelf.store_faults l.fn.shelf) (g.S.Shelf.store_faults l.shelf);
      loads : SameCounts (g.S.Shelf.load_faults l.fn.shelf) (g.S.Shelf.load_faults l.shelf);
    }

abbrev pub decreases-loop-piece : goal.decreases-loop-piece
decreases-loop-piece g l = l.playing.left
