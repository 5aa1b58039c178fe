use Rattle.std.proofs.Common.{◌≡◌, ◌<◌, ℕ, length, drop}
use Rattle.ij_text.specs.Options.{or_else}
use Rattle.icl_elab.specs.Placing.{home_at, home_in, parent_in}
use Rattle.icl_references.specs.Tables.{frames_of}
use Rattle.icl_elab.proofs.Homes.{home_from}
use Rattle.icl_elab.proofs.hierarchy.homes.Given as goal

abbrev pub invariant-loop-here : goal.invariant-loop-here
invariant-loop-here l = record {
  long : length l.homes.items ≡ length l.cells;
  homes : (c : ℕ) → c < length l.cells → or_else (home_at l.homes.items c)
      (home_from c (parent_in (frames_of l.tables) c) l.here (drop l.here l.cells))
      ≡ home_in l.cells c (parent_in (frames_of l.tables) c);
}
