use Rattle.std.proofs.Common.{◌≡◌, ◌-◌, length, drop}
use Rattle.ij_bits.specs.BitLists.{bits_of, bits_eq}
use Rattle.net_bench.proofs.stages.is_number.Given as goal

abbrev pub invariant-loop-i : goal.invariant-loop-i
invariant-loop-i l =
    bits_eq (drop l.i l.stage.items) (bits_of (length l.stage.items - l.i) l.rest)
    ≡ bits_eq l.stage.items (bits_of (length l.stage.items) l.n)
