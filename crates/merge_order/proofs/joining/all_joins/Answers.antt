use Rattle.std.proofs.Common.{ap, ◌∙◌, sym, subst, List}
use Rattle.net_graph.specs.SeenSteps.{SeenGroup}
use Rattle.pdl_targets.specs.SeenPlaces.{places_in}
use Rattle.merge_order.specs.Insertion.{put_all}
use Rattle.merge_order.specs.Named.{Tells}
use Rattle.merge_order.specs.SeenJoins.{seen_applies, seen_joins}
use Rattle.merge_order.proofs.Insertions.{put_is}
use Rattle.merge_order.proofs.joining.all_joins.Goals as goal

pub loop-rounds-init : goal.loop-rounds-init
loop-rounds-init c =
    let places = places_in c.args.tree.now in
    let none = ap seen_joins c.new-joins.ensures.items in
    record {
      joins = ap (λ js. put_all places js (seen_applies c.args.applies.now)) none
          ∙ put_is places (seen_applies c.args.applies.now);
      tells = subst (λ (js : List (List SeenGroup)). Tells places c.clear.new.self js)
          (sym none) (c.clear.ensures places);
    }
