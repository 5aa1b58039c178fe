use Rattle.net_graph.specs.SeenSteps.{seen_group}
use Rattle.merge_order.proofs.Telling.{put_told}
use Rattle.merge_order.proofs.named.Named.add.Goals as goal

pub returns : goal.returns
returns c = λ places joins same tells within open_join.
    put_told places c.args.self.now c.add_named.new.self c.add_all.new.self
    (seen_group c.args.group.now) c.args.around.now joins c.args.join same tells within open_join
    c.in_ok-add_named.ensures.bits c.in_ok-add_named.ensures.closed c.in_ok-add_all.ensures
