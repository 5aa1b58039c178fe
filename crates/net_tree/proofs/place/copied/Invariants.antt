use Rattle.std.proofs.Common.{◌≡◌, ◌≤◌, length, take}
use Rattle.net_tree.proofs.place.copied.Given as goal

abbrev pub invariant-loop-branch : goal.invariant-loop-branch
invariant-loop-branch l =
    (length l.place ≤ 16)
    × (l.copy.capacity ≡ 16)
    × (l.copy.items ≡ take l.branch-index l.place)
