use Rattle.std.proofs.Common.{◌≡◌, drop}
use Rattle.std.specs.List.{list_any}
use Rattle.ij_text.specs.Numbers.{tern_bits}
use Rattle.table_lines.specs.Words.{is_one}
use Rattle.table_lines.proofs.word.some_one_from.Given as goal

abbrev pub invariant-loop-k : goal.invariant-loop-k
invariant-loop-k l = list_any is_one (drop l.k (tern_bits l.t))
    ≡ list_any is_one (drop l.width (tern_bits l.t))
