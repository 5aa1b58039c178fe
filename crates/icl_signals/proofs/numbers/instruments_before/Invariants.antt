use Rattle.std.proofs.Common.{◌≡◌, ◌++◌, drop}
use Rattle.icl_signals.specs.Kinds.{before}
use Rattle.icl_signals.proofs.numbers.instruments_before.Given as goal

abbrev pub invariant-loop-flag : goal.invariant-loop-flag
invariant-loop-flag l = l.numbers.items ++ before (λ b. b) l.next (drop l.flag-index l.flags)
    ≡ before (λ b. b) 0 l.flags
