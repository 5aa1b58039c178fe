use Rattle.std.proofs.Common.{◌≡◌, drop}
use Rattle.pdl_targets.specs.Captors.{first_captor}
use Rattle.pdl_targets.proofs.captors.first_captor.Given as goal

abbrev pub invariant-loop-captor : goal.invariant-loop-captor
invariant-loop-captor l = first_captor (drop l.captor-index l.captors) l.signal
    ≡ first_captor l.captors l.signal
