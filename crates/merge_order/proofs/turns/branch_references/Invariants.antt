use Rattle.std.proofs.Common.{◌≡◌, take}
use Rattle.merge_order.specs.SeenTurns.{seen_lists, seen_slices}
use Rattle.merge_order.proofs.turns.branch_references.Given as goal

abbrev pub invariant-loop-branch : goal.invariant-loop-branch
invariant-loop-branch l = seen_slices l.all.items ≡ seen_lists (take l.branch-index l.branches)
