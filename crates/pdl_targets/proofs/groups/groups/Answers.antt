use Rattle.std.proofs.Common.{◌≤◌, sym, ap, subst, ◌∙◌}
use Rattle.pdl_targets.specs.Laws.{times_in_all}
use Rattle.pdl_targets.specs.SeenPlaces.{places_in}
use Rattle.pdl_targets.specs.SeenRounds.{seen_rounds}
use Rattle.pdl_targets.proofs.Apart.{are_the_queue}
use Rattle.pdl_targets.proofs.groups.groups.Goals as goal

pub groups_in-requires : goal.groups_in-requires
groups_in-requires c = λ r.
    subst (λ n. n ≤ 1) (sym (ap (λ l. times_in_all (seen_rounds l) r) c.deref-2.ensures.value
    ∙ ap (λ rss. times_in_all rss r) c.in_ok-rounds.ensures
    ∙ are_the_queue (places_in c.args.tree.now) c.args.registers.now r)) (c.requires r)
