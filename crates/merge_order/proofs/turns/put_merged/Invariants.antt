use Rattle.std.proofs.Common.{◌≡◌, ◌+◌, ◌++◌, length}
use Rattle.pdl_targets.specs.SeenPlaces.{places_in}
use Rattle.merge_order.specs.Merge as merge
use Rattle.merge_order.specs.SeenTurns.{seen_lists, seen_slices, seen_steps}
use Rattle.merge_order.proofs.turns.put_merged.Given as goal

abbrev pub invariant-loop-alloc : goal.invariant-loop-alloc
invariant-loop-alloc l = seen_steps l.steps.items ++ merge.merged (places_in l.tree)
    (seen_slices l.left.items) ≡ merge.merged (places_in l.tree) (seen_lists l.branches)

abbrev pub decreases-loop-alloc : goal.decreases-loop-alloc
decreases-loop-alloc l = merge.longest (seen_slices l.left.items) + length (seen_slices l.left.items)
