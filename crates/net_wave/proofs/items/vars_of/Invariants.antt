use Rattle.std.proofs.Common.{◌≡◌, take}
use Rattle.net_wave.specs.Vars.{vars_of}
use Rattle.net_wave.proofs.items.vars_of.Given as goal

abbrev pub invariant-loop-item : goal.invariant-loop-item
invariant-loop-item l = l.seen.items ≡ vars_of (take l.item-index l.items)
