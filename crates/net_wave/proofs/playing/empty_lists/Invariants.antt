use Rattle.std.proofs.Common.{◌≡◌}
use Rattle.net_wave.specs.Left.{told_of}
use Rattle.net_wave.specs.Moments.{untold}
use Rattle.net_wave.proofs.playing.empty_lists.Given as goal

abbrev pub invariant-loop-k : goal.invariant-loop-k
invariant-loop-k l = told_of l.told.items ≡ untold l._k
