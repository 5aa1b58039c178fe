use Rattle.std.proofs.Common.{◌≡◌, ◌+◌, ◌-◌, ◌≤◌, length, drop}
use Rattle.ij_text.specs.Words.{in_name}
use Rattle.icl_lexer.specs.Matches.{run_len}
use Rattle.icl_lexer.proofs.pieces.name_len.Given as goal

abbrev pub invariant-loop-n : goal.invariant-loop-n
invariant-loop-n l = record {
  within : l.n ≤ length l.text;
  counted : l.n + run_len in_name (drop l.n l.text) ≡ run_len in_name l.text;
}

abbrev pub decreases-loop-n : goal.decreases-loop-n
decreases-loop-n l = length l.text - l.n
