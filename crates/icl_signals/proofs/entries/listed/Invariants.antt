use Rattle.std.proofs.Common.{◌≡◌, take}
use Rattle.icl_signals.proofs.entries.listed.Given as goal

abbrev pub invariant-loop-i : goal.invariant-loop-i
invariant-loop-i l = l.all.items ≡ take l.i l.refs.items
