use Rattle.std.proofs.Common.{◌≡◌, map, drop}
use Rattle.icl_references.specs.Muxes.{some_meet}
use Rattle.icl_references.specs.Overlaps.{AreRowsAlike, IsSeen, from_left, values_of}
use Rattle.icl_references.specs.Roles.{seen_row}
use Rattle.icl_references.proofs.overlaps.some_meet.Given as goal

abbrev pub invariant-loop-row : goal.invariant-loop-row
invariant-loop-row l = record {
  seen : IsSeen l.seen;
  alike : AreRowsAlike (values_of l.seen) (map seen_row (drop l.row-index l.rows));
  goes_on : from_left (values_of l.seen) (map seen_row (drop l.row-index l.rows))
      ≡ some_meet (map seen_row l.rows);
}
