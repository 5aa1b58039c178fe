-- What is written so far: what the file holds, and then the piece.
use Rattle.std.proofs.Common.{◌≡◌, length}
use Rattle.std.specs.Prelude.{All}
use Rattle.ij_io.specs.Causes.{SameCounts}
use Rattle.ij_io.specs.Files.{OthersStay}
use Rattle.ij_io.specs.Pieces.{IsThere, with_piece}
use Rattle.ij_io.proofs.Later.{Later}
use Rattle.mux_test.specs.Texts.{CanWrite}
use Rattle.mux_test.proofs.Filed.{Go}
use Rattle.mux_test.proofs.file.put_scans.Given as goal

abbrev pub invariant-loop-piece : goal.invariant-loop-piece
invariant-loop-piece g l =
    record {
      go : Go l.fn.net l.fn.test.scans (with_piece (g.S.Shelf.files l.fn.shelf) l.fn.name l.fn.piece)
          l.test.scans (with_piece (g.S.Shelf.files l.shelf) l.fn.name l.piece);
      there : IsThere (g.S.Shelf.files l.shelf) l.fn.name;
      can : All (CanWrite l.fn.net) l.test.scans;
      others : OthersStay (g.S.Shelf.files l.fn.shelf) (g.S.Shelf.files l.shelf) l.fn.name;
      later : Later l.fn.name (g.S.Shelf.store_faults l.fn.shelf) (g.S.Shelf.store_faults l.shelf);
      loads : SameCounts (g.S.Shelf.load_faults l.fn.shelf) (g.S.Shelf.load_faults l.shelf);
      unseen : l.test.unseen ≡ l.fn.test.unseen;
      scan_count : l.test.scan_count ≡ l.fn.test.scan_count;
      row_count : l.test.row_count ≡ l.fn.test.row_count;
    }

abbrev pub decreases-loop-piece : goal.decreases-loop-piece
decreases-loop-piece g l = length l.test.scans
