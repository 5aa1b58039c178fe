use Rattle.std.proofs.Common.{◌≡◌, ◌++◌, map, drop}
use Rattle.icl_references.specs.Roles.{seen_part}
use Rattle.icl_signals.specs.Kinds.{is_of, before, with_all}
use Rattle.icl_signals.proofs.numbers.counts_before.Given as goal

abbrev pub invariant-loop-part : goal.invariant-loop-part
invariant-loop-part l = record {
  numbers : l.numbers.items ++ before (is_of l.kind) l.next (map seen_part (drop l.part-index l.parts))
      ≡ before (is_of l.kind) l.count (map seen_part l.parts);
  count : with_all (is_of l.kind) l.next (map seen_part (drop l.part-index l.parts))
      ≡ with_all (is_of l.kind) l.count (map seen_part l.parts);
}
