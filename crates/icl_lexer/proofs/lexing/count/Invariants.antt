use Rattle.std.proofs.Common.{◌≡◌, ◌-◌, ◌≤◌, List, length}
use Rattle.ij_text.specs.declared.Place.{Place}
use Rattle.icl_lexer.specs.Token.{Token}
use Rattle.icl_lexer.proofs.Cuts.{CutSoFar}
use Rattle.icl_lexer.proofs.lexing.count.Given as goal

abbrev pub invariant-loop-start : goal.invariant-loop-start
invariant-loop-start l = record {
  within : l.start ≤ length l.src;
  few : l.count ≤ l.start;
  cut : (tokens : List Token) × (at : Place) × (CutSoFar l.src tokens l.start at) × (l.count ≡ length tokens);
}

abbrev pub decreases-loop-start : goal.decreases-loop-start
decreases-loop-start l = length l.src - l.start
