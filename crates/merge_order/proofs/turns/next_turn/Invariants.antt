use Rattle.std.proofs.Common.{◌≡◌, ◌++◌, drop}
use Rattle.merge_order.specs.Merge as merge
use Rattle.merge_order.specs.SeenTurns.{seen_heads, seen_slices}
use Rattle.merge_order.proofs.turns.next_turn.Given as goal

abbrev pub invariant-loop-branch : goal.invariant-loop-branch
invariant-loop-branch l = record {
  heads : seen_heads l.turn.heads.items ++ merge.firsts (seen_slices (drop l.branch-index l.branches))
      ≡ merge.firsts (seen_slices l.branches);
  left : seen_slices l.turn.left.items ++ merge.later (seen_slices (drop l.branch-index l.branches))
      ≡ merge.later (seen_slices l.branches);
}
