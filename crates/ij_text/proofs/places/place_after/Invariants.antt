use Rattle.std.proofs.Common.{◌≡◌, ◌+◌, ◌≤◌, drop}
use Rattle.ij_text.specs.Places.{place_after}
use Rattle.ij_text.proofs.places.place_after.Given as goal

abbrev pub invariant-loop-b : goal.invariant-loop-b
invariant-loop-b l = record {
  value : place_after l.at (drop l.b-index l.bytes) ≡ place_after l.fn.at l.bytes;
  column : 1 ≤ l.at.col;
  sum : l.at.line + l.at.col ≤ l.fn.at.line + l.fn.at.col + l.b-index;
}
