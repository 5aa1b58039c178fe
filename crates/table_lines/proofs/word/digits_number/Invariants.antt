use Rattle.std.proofs.Common.{◌≡◌, ◌-◌, map, drop}
use Rattle.table_lines.specs.Words.{is_one}
use Rattle.ij_bits.specs.BitLists.{number_of}
use Rattle.ij_text.specs.Numbers.{tern_bits}
use Rattle.table_lines.proofs.word.digits_number.Given as goal

abbrev pub invariant-loop-k : goal.invariant-loop-k
invariant-loop-k l = l.n ≡ number_of (map is_one (drop (l.len - l.k) (tern_bits l.t)))
