use Rattle.std.proofs.Common.{◌≡◌, length}
use Rattle.icl_references.specs.Tables.{AreEmpty}
use Rattle.icl_references.proofs.tables.empty_child_tables.Given as goal

abbrev pub invariant-loop-k : goal.invariant-loop-k
invariant-loop-k l = record {
  long : length l.all.items ≡ l._k;
  none : AreEmpty l.all.items;
}
