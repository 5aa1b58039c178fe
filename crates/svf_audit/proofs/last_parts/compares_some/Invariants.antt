use Rattle.std.proofs.Common.{◌≡◌, ◌*◌, min, drop}
use Rattle.ij_bits.specs.BitLists.{has_one}
use Rattle.svf_audit.specs.LastParts.{seen_last}
use Rattle.svf_audit.proofs.last_parts.compares_some.Given as goal

abbrev pub invariant-loop-word : goal.invariant-loop-word
invariant-loop-word l =
    has_one (drop (min (64 * l.word) l.n) (seen_last l.kept).mask) ≡ has_one (seen_last l.kept).mask
