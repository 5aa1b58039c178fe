use Rattle.std.proofs.Common.{◌≡◌, drop}
use Rattle.std.specs.List.{list_all}
use Rattle.std.specs.Prelude.{is_some}
use Rattle.ij_text.specs.Numbers.{tern_bits}
use Rattle.icl_references.proofs.values.is_closed.Given as goal

abbrev pub invariant-loop-k : goal.invariant-loop-k
invariant-loop-k l = list_all is_some (drop l.k (tern_bits l.bits)) ≡ list_all is_some (tern_bits l.bits)
