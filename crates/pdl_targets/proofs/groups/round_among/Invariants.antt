use Rattle.std.proofs.Common.{◌≡◌, drop}
use Rattle.pdl_targets.specs.SeenRounds.{is_in_any, seen_rounds}
use Rattle.pdl_targets.proofs.groups.round_among.Given as goal

abbrev pub invariant-loop-k : goal.invariant-loop-k
invariant-loop-k l = is_in_any (seen_rounds (drop l.k l.rounds)) l.register
    ≡ is_in_any (seen_rounds l.rounds) l.register
