use Rattle.std.proofs.Common.{◌≡◌, ◌≤◌, List, ℕ, map, take, vec_len}
use Rattle.ij_io.specs.Causes.{SameCounts}
use Rattle.ijtag_work.specs.Loads.{names_of}
use Rattle.ijtag_work.specs.Follows.{AreShort, seen_texts}
use Rattle.ijtag_work.specs.Loads.{loaded}
use Rattle.ijtag_work.specs.Runs.{OnlyTheseRise}
use Rattle.ijtag_work.specs.Seen.{seen_load}
use Rattle.ijtag_work.proofs.load.load_files.Given as goal

abbrev pub invariant-loop-load : goal.invariant-loop-load
invariant-loop-load g l = record {
  files : g.S.Shelf.files l.shelf ≡ g.S.Shelf.files l.fn.shelf;
  given : (loaded (g.S.Shelf.files l.fn.shelf) (map seen_load (take l.load-index l.loads))).gives
      (seen_texts l.texts.items);
  count : vec_len l.texts ≡ l.load-index;
  short : AreShort (seen_texts l.texts.items);
  later : (any : List ℕ) → g.S.Shelf.load_faults l.fn.shelf any ≤ g.S.Shelf.load_faults l.shelf any;
  others : OnlyTheseRise (names_of (map seen_load l.loads))
      (g.S.Shelf.load_faults l.fn.shelf) (g.S.Shelf.load_faults l.shelf);
  stores : SameCounts (g.S.Shelf.store_faults l.fn.shelf) (g.S.Shelf.store_faults l.shelf);
}
