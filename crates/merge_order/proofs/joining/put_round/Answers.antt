use Rattle.std.proofs.Common.{◌≡◌, ◌≤◌, ◌<◌, length, sym, ap, ◌∙◌, subst, arith, List}
use Rattle.std.proofs.lemmas.List.{length-map}
use Rattle.net_graph.specs.SeenSteps.{SeenGroup, seen_group}
use Rattle.pdl_targets.specs.SeenPlaces.{places_in}
use Rattle.pdl_targets.specs.SeenRounds.{seen_groups}
use Rattle.merge_order.specs.Named.{Tells}
use Rattle.merge_order.specs.SeenJoins.{seen_joins}
use Rattle.merge_order.proofs.Insertions.{open_there, put_there}
use Rattle.merge_order.proofs.Tabled.{same_as}
use Rattle.merge_order.proofs.joining.put_round.Goals as goal

pub returns : goal.returns
returns c =
    let places = places_in c.args.tree.now in
    let joins = seen_joins c.args.joins.now.items in
    let h = seen_group c.args.round.now in
    let place = c.first_join-place.result in
    let len = length-map c.args.joins.now.items (λ j. seen_groups j.items) in
    let count : c.in_ok-count.count ≡ length joins =
    c.in_ok-count.ensures ∙ ap length c.deref.ensures.value ∙ sym len in
    let seen = same_as c.as_slice.result.now c.in_ok-around.around.items _
    c.as_slice.ensures c.in_ok-around.ensures in
    let again = same_as c.as_slice-2.result.now c.in_ok-around.around.items _
    c.as_slice-2.ensures c.in_ok-around.ensures in
    let at_most : place ≤ length joins = omega (arith, c.first_join-place.ensures.at_most, count) in
    let at = λ (below : place < length joins). c.first_join-place.ensures.at places joins seen c.requires
    (omega (arith, below, count)) in
    let open_join = open_there places h joins place at_most at in
    let there = put_there places h joins place at_most
    (c.first_join-place.ensures.before places joins seen c.requires) at in
    let fits : place ≤ length c.args.joins.now.items = omega (arith, at_most, len) in
    let put = c.in_ok-put_at.ensures fits open_join in
    record {
      joins = put ∙ there;
      tells = subst (λ (js : List (List SeenGroup)). Tells places c.add.new.self js) (sym put)
          (c.in_ok-add.ensures places joins again c.requires at_most open_join);
    }
