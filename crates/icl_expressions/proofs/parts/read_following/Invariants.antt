use Rattle.std.proofs.Common.{◌≡◌, ◌≤◌, [], ◌∷◌, length}
use Rattle.icl_lexer.specs.Views.{seen_few}
use Rattle.icl_expressions.specs.Reading.{more_parted}
use Rattle.icl_expressions.proofs.parts.read_following.Given as goal

abbrev pub invariant-loop-alloc : goal.invariant-loop-alloc
invariant-loop-alloc g l = record {
  shorter : length l.parts.rest ≤ length l.fn.first.rest;
  goes_on : more_parted l.mark g.T.Parted.reader (seen_few g.T.Parted.view l.parts.value) l.parts.rest
      ≡ more_parted l.mark g.T.Parted.reader (g.T.Parted.view l.fn.first.value ∷ []) l.fn.first.rest;
}

abbrev pub decreases-loop-alloc : goal.decreases-loop-alloc
decreases-loop-alloc g l = length l.parts.rest
