use Rattle.std.proofs.Common.{◌≡◌, drop}
use Rattle.pdl_targets.specs.SeenPlaces.{places_in}
use Rattle.merge_order.specs.Insertion.{put_all}
use Rattle.merge_order.specs.Merge as merge
use Rattle.merge_order.specs.Named.{Tells}
use Rattle.merge_order.specs.SeenJoins.{seen_applies, seen_joins}
use Rattle.merge_order.proofs.joining.all_joins.Given as goal

abbrev pub invariant-loop-rounds : goal.invariant-loop-rounds
invariant-loop-rounds l = record {
  joins : put_all (places_in l.tree) (seen_joins l.joins.items) (seen_applies (drop l.rounds-index l.applies))
      ≡ merge.all_joins (places_in l.tree) (seen_applies l.applies);
  tells : Tells (places_in l.tree) l.named (seen_joins l.joins.items);
}
