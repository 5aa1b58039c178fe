use Rattle.std.proofs.Common.{◌≡◌, map, take}
use Rattle.icl_elab.proofs.marks.Row.closed.Given as goal

abbrev pub invariant-loop-number : goal.invariant-loop-number
invariant-loop-number l = map (λ m. m.number) l.marks.items ≡ take l.number-index l.self
