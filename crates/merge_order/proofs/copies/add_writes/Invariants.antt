use Rattle.std.proofs.Common.{◌≡◌, ◌++◌, take}
use Rattle.merge_order.proofs.copies.add_writes.Given as goal

abbrev pub invariant-loop-write : goal.invariant-loop-write
invariant-loop-write l = l.writes.items ≡ l.fn.writes.items ++ take l.write-index l.more
