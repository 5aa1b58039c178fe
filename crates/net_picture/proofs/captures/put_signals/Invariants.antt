use Rattle.std.proofs.Common.{◌-◌, Some, length}
use Rattle.ij_io.proofs.Fronts.{AddsFront}
use Rattle.net_picture.specs.Captures.{captures}
use Rattle.net_picture.proofs.captures.put_signals.Given as goal

abbrev pub invariant-loop-j : goal.invariant-loop-j
invariant-loop-j l = record {
  front : AddsFront (Some l.fn.text) (Some l.text) (captures l.net l.signals (length l.signals - l.j))
      (captures l.net l.signals (length l.signals));
}
