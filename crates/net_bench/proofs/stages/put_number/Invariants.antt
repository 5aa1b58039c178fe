use Rattle.std.proofs.Common.{◌≡◌, ◌-◌, ◌++◌, length, take}
use Rattle.ij_bits.specs.BitLists.{bits_of}
use Rattle.net_bench.proofs.stages.put_number.Given as goal

abbrev pub invariant-loop-i : goal.invariant-loop-i
invariant-loop-i l =
    (length l.stage.items ≡ length l.fn.stage.items) × (take l.i l.stage.items
    ++ bits_of (length l.fn.stage.items - l.i) l.rest ≡ bits_of (length l.fn.stage.items) l.n)
