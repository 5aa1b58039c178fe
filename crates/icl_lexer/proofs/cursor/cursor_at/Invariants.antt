use Rattle.std.proofs.Common.{◌≡◌, length}
use Rattle.icl_lexer.specs.Seen.{tokens_in}
use Rattle.icl_lexer.specs.Lexemes.{HasPlaces}
use Rattle.icl_lexer.proofs.cursor.cursor_at.Given as goal

abbrev pub invariant-loop-found : goal.invariant-loop-found
invariant-loop-found l = record {
  places : HasPlaces l.at (length l.rest);
  same : tokens_in l.rest l.at ≡ tokens_in l.fn.text l.fn.at;
}

abbrev pub decreases-loop-found : goal.decreases-loop-found
decreases-loop-found l = length l.rest
