use Rattle.std.proofs.Common.{ap, ◌∙◌}
use Rattle.std.specs.Vec.{vec_len}
use Rattle.pdl_targets.specs.SeenPlaces.{places_in}
use Rattle.merge_order.specs.Merge as merge
use Rattle.merge_order.specs.SeenTurns.{seen_heads, seen_lists, seen_slices, seen_steps}
use Rattle.merge_order.proofs.Turning.{fewer_branches, one_turn_more}
use Rattle.merge_order.proofs.turns.put_merged.Goals as goal

pub loop-alloc-smaller : goal.loop-alloc-smaller
loop-alloc-smaller c =
    fewer_branches (vec_len c.loop-alloc.left) c.is_empty.result c.loop-alloc.left.items
    c.deref.result.now c.in_ok-turn.turn.left.items
    c.deref.ensures.value c.deref.ensures.len c.is_empty.ensures
    c.loop-alloc-test.true c.in_ok-turn.ensures.left

pub loop-alloc-preserved : goal.loop-alloc-preserved
loop-alloc-preserved c =
    let places = places_in c.args.tree.now in
    let lefts = seen_slices c.loop-alloc.left.items in
    let heads = ap seen_heads c.deref-in-loop-alloc.ensures.value ∙ c.in_ok-turn.ensures.heads
    ∙ ap (λ l. merge.firsts (seen_slices l)) c.deref.ensures.value in
    let left = c.in_ok-turn.ensures.left ∙ ap (λ l. merge.later (seen_slices l)) c.deref.ensures.value in
    one_turn_more places (seen_steps c.loop-alloc.steps.items) (seen_steps c.put_turn.new.steps.items)
    (seen_heads c.deref-in-loop-alloc.result.now) lefts (seen_slices c.in_ok-turn.turn.left.items)
    (merge.merged places (seen_lists c.args.branches.now))
    c.in_ok-put_turn.ensures heads left c.loop-alloc.invariant
