use Rattle.std.proofs.Common.{◌≡◌, ◌++◌, take}
use Rattle.merge_order.proofs.copies.add_reads.Given as goal

abbrev pub invariant-loop-read : goal.invariant-loop-read
invariant-loop-read l = l.reads.items ≡ l.fn.reads.items ++ take l.read-index l.more
