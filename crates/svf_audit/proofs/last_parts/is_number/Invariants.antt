use Rattle.std.proofs.Common.{◌≡◌, ◌-◌, drop}
use Rattle.ij_bits.specs.BitLists.{bits_of, bits_eq}
use Rattle.svf_audit.specs.LastParts.{seen_tdi}
use Rattle.svf_audit.proofs.last_parts.is_number.Given as goal

abbrev pub invariant-loop-k : goal.invariant-loop-k
invariant-loop-k l =
    bits_eq (drop l.k (seen_tdi l.kept)) (bits_of (l.kept.len - l.k) l.rest)
    ≡ bits_eq (seen_tdi l.kept) (bits_of l.kept.len l.n)
