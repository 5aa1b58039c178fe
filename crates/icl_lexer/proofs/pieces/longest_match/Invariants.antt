use Rattle.std.proofs.Common.{◌≡◌, ◌-◌, ◌≤◌, ◌++◌, ℕ, List, length, take}
use Rattle.icl_lexer.specs.Pieces.{kind_of}
use Rattle.icl_lexer.specs.States.{kind_from}
use Rattle.icl_lexer.specs.Matches.{longest_match}
use Rattle.icl_lexer.proofs.pieces.longest_match.Given as goal

-- the state stands for the bytes so far
abbrev pub invariant-loop-n : goal.invariant-loop-n
invariant-loop-n l = record {
  within : l.n ≤ length l.text;
  stands : (bs : List ℕ) → kind_from l.state bs ≡ kind_of (take l.n l.text ++ bs);
  found : l.found ≡ longest_match l.text l.n;
}

abbrev pub decreases-loop-n : goal.decreases-loop-n
decreases-loop-n l = length l.text - l.n
