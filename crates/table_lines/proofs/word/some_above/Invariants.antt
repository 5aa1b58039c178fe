use Rattle.std.proofs.Common.{◌≡◌, drop}
use Rattle.std.specs.Prelude.{◌||◌}
use Rattle.std.specs.List.{list_any}
use Rattle.ij_text.specs.Numbers.{tern_bits}
use Rattle.table_lines.specs.Words.{is_open, is_one}
use Rattle.table_lines.proofs.word.some_above.Given as goal

abbrev pub invariant-loop-k : goal.invariant-loop-k
invariant-loop-k l =
    list_any (λ bit. is_open bit || is_one bit) (drop l.k (tern_bits l.t))
    ≡ list_any (λ bit. is_open bit || is_one bit) (drop l.width (tern_bits l.t))
