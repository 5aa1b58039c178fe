use Rattle.std.proofs.Common.{◌≡◌, drop}
use Rattle.ij_text.specs.Numbers.{tern_bits}
use Rattle.pdl_targets.specs.Targets.{writes_of}
use Rattle.pdl_targets.proofs.Finding.{after}
use Rattle.pdl_targets.proofs.register_bits.writes_of.Given as goal

abbrev pub invariant-loop-i : goal.invariant-loop-i
invariant-loop-i l = after l.writes.items
    (writes_of l.net l.at (drop l.i l.spots) (drop l.i (tern_bits l.values)))
    ≡ writes_of l.net l.at l.spots (tern_bits l.values)
