use Rattle.std.proofs.Common.{◌≡◌, map, drop}
use Rattle.ij_text.specs.Numbers.{tern_bits}
use Rattle.icl_references.specs.Overlaps.{AreAlike, values_meet, values_of}
use Rattle.icl_references.proofs.overlaps.row_meets.Given as goal

abbrev pub invariant-loop-v : goal.invariant-loop-v
invariant-loop-v l = record {
  alike : AreAlike (values_of l.seen) (map tern_bits (drop l.v-index l.row));
  goes_on : values_meet (values_of l.seen) (map tern_bits (drop l.v-index l.row))
      ≡ values_meet (values_of l.seen) (map tern_bits l.row);
}
