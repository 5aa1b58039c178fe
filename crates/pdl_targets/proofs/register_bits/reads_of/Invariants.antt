use Rattle.std.proofs.Common.{◌≡◌, drop}
use Rattle.ij_text.specs.Numbers.{tern_bits}
use Rattle.pdl_targets.specs.Targets.{reads_of}
use Rattle.pdl_targets.proofs.Finding.{after}
use Rattle.pdl_targets.proofs.register_bits.reads_of.Given as goal

abbrev pub invariant-loop-i : goal.invariant-loop-i
invariant-loop-i l = after l.reads.items
    (reads_of l.net l.at l.read l.i (drop l.i l.spots) (drop l.i (tern_bits l.values)))
    ≡ reads_of l.net l.at l.read 0 l.spots (tern_bits l.values)
