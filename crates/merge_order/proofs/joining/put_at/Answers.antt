use Rattle.std.proofs.Common.{◌<◌, ◌≤◌, List, [], ◌∷◌, ◌++◌, length, ap, ◌∙◌, arith}
use Rattle.std.specs.Prelude.{Vec}
use Rattle.std.specs.declared.alloc.Global.{Global}
use Rattle.net_graph.specs.declared.step.Group.{Group}
use Rattle.std.specs.Vec.{with_items}
use Rattle.std.proofs.lemmas.List.{with_items_is}
use Rattle.net_graph.specs.SeenSteps.{seen_group}
use Rattle.merge_order.proofs.Insertions.{pushed_join, written_join}
use Rattle.merge_order.proofs.joining.put_at.Goals as goal

pub returns-in_ok-add_round : goal.returns-in_ok-add_round
returns-in_ok-add_round c = λ within open_join.
    let there : c.args.place < length c.args.joins.now.items = omega arith in
    let written = with_items_is c.index_mut-join.result.now c.add_round.new.join
    (c.add_round.auto.join ∙ c.deref_mut.ensures.len) in
    written_join c.args.joins.now.items c.args.place c.index_mut-join.result.now (with_items
    c.index_mut-join.result.now c.add_round.new.join) c.deref_mut.result.now c.add_round.new.join
    (seen_group c.args.round.now) there c.index_mut-join.ensures.value c.deref_mut.ensures.value
    written c.in_ok-add_round.ensures open_join

pub returns-in_ok-join_of_round : goal.returns-in_ok-join_of_round
returns-in_ok-join_of_round c = λ within open_join.
    let past : length c.args.joins.now.items ≤ c.args.place = omega arith in
    let join = c.in_ok-join_of_round.field-0 in
    let added = c.push_reserved.ensures.items
    ∙ ap (λ (l : List (Vec Group Global)). l ++ join ∷ []) c.reserve.ensures.items in
    pushed_join c.args.joins.now.items c.push_reserved.new.self.items c.args.place join
    (seen_group c.args.round.now) past added c.in_ok-join_of_round.ensures
