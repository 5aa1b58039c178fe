use Rattle.std.proofs.Common.{◌≡◌, drop}
use Rattle.std.specs.List.{list_any}
use Rattle.ij_text.specs.Numbers.{tern_bits}
use Rattle.table_lines.specs.Words.{is_open}
use Rattle.table_lines.proofs.word.some_open.Given as goal

abbrev pub invariant-loop-i : goal.invariant-loop-i
invariant-loop-i l = list_any is_open (drop l.i (tern_bits l.t)) ≡ list_any is_open (tern_bits l.t)
