use Rattle.std.proofs.Common.{◌≡◌, ◌++◌, length}
use Rattle.svf_reader.specs.Seen.{digits_of}
use Rattle.svf_reader.proofs.hex.gather_digits.Given as goal

abbrev pub invariant-loop-next : goal.invariant-loop-next
invariant-loop-next l = l.digits.items ++ digits_of l.text ≡ digits_of l.fn.text

abbrev pub decreases-loop-next : goal.decreases-loop-next
decreases-loop-next l = length l.text
