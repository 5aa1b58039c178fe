use Rattle.std.proofs.Common.{◌≡◌, ◌++◌, ◌-◌}
use Rattle.net_wave.specs.Codes.{code, code_digits}
use Rattle.net_wave.proofs.codes.add_code.Given as goal

abbrev pub invariant-loop-k : goal.invariant-loop-k
invariant-loop-k l = l.piece ++ code_digits (10 - l._k) l.left ≡ l.fn.piece ++ code l.number
