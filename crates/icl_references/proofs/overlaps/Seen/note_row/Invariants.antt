use Rattle.std.proofs.Common.{◌≡◌, ◌++◌, map, take}
use Rattle.ij_text.specs.Numbers.{tern_bits}
use Rattle.icl_references.specs.Overlaps.{IsSeen, values_of}
use Rattle.icl_references.proofs.overlaps.Seen.note_row.Given as goal

abbrev pub invariant-loop-v : goal.invariant-loop-v
invariant-loop-v l = record {
  seen : IsSeen l.self;
  all : values_of l.self ≡ values_of l.fn.self ++ map tern_bits (take l.v-index l.row);
}
