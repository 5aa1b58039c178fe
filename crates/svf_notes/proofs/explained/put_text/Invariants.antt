-- what is written so far, in the file and then in the piece, and what the rest of the text comes to
use Rattle.std.proofs.Common.{length}
use Rattle.ij_io.specs.Causes.{SameCounts}
use Rattle.ij_io.specs.Files.{OthersStay}
use Rattle.ij_io.specs.Pieces.{IsThere, with_piece}
use Rattle.ij_io.proofs.Fronts.{AddsFront}
use Rattle.ij_io.proofs.Later.{Later}
use Rattle.svf_notes.specs.Explained.{explained}
use Rattle.svf_notes.specs.Left.{IsPlaying, left_notes}
use Rattle.svf_notes.proofs.explained.put_text.Given as goal

abbrev pub invariant-loop-next : goal.invariant-loop-next
invariant-loop-next g l =
    record {
      playing : IsPlaying l.playing;
      front : AddsFront (with_piece (g.S.Shelf.files l.fn.shelf) l.name l.fn.piece)
          (with_piece (g.S.Shelf.files l.shelf) l.name l.piece) (explained (left_notes l.playing) l.rest)
          (explained (left_notes l.fn.playing) l.src);
      there : IsThere (g.S.Shelf.files l.shelf) l.name;
      others : OthersStay (g.S.Shelf.files l.fn.shelf) (g.S.Shelf.files l.shelf) l.name;
      later : Later l.name (g.S.Shelf.store_faults l.fn.shelf) (g.S.Shelf.store_faults l.shelf);
      loads : SameCounts (g.S.Shelf.load_faults l.fn.shelf) (g.S.Shelf.load_faults l.shelf);
    }

abbrev pub decreases-loop-next : goal.decreases-loop-next
decreases-loop-next g l = length l.rest
