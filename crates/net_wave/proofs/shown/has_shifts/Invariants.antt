use Rattle.std.proofs.Common.{◌≡◌, false, take}
use Rattle.std.specs.List.{list_any}
use Rattle.net_wave.specs.Changes.{is_shift}
use Rattle.net_wave.proofs.shown.has_shifts.Given as goal

abbrev pub invariant-loop-var : goal.invariant-loop-var
invariant-loop-var l = list_any is_shift (take l.var-index l.vars) ≡ false
