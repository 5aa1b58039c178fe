use Rattle.net_wave.specs.declared.var.Item.TheVariants.{Open}
use Rattle.net_wave.specs.declared.var.Scope.TheVariants.{Node}
use Rattle.net_wave.proofs.There.{vars_next}
use Rattle.net_wave.proofs.items.vars_of.Goals as goal

pub loop-item-preserved : goal.loop-item-preserved
loop-item-preserved c =
    vars_next c.args.items.now c.loop-item.item-index (Open (Node 0)) c.loop-item.seen.items
    c.add_declared.new.seen.items c.loop-item-test.true c.loop-item.invariant c.in_ok-add_declared.ensures
