use Rattle.std.proofs.Common.{◌≡◌, ◌-◌, ◌≤◌, drop, length}
use Rattle.net_tree.specs.Passing as passing
use Rattle.net_tree.proofs.pass.nth_row_start.Given as goal

abbrev pub invariant-loop-turn : goal.invariant-loop-turn
invariant-loop-turn l =
    (l.at ≤ l.from)
    × (l.from ≤ length l.entries)
    × (passing.nth_row_start (l.row - l._turn) (drop l.from l.entries) ≡ passing.nth_row_start l.row (drop
    l.at l.entries))
