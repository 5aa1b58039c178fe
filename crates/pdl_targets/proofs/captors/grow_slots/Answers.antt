use Rattle.std.proofs.Common.{◌∙◌}
use Rattle.pdl_targets.proofs.Captured.{longer}
use Rattle.pdl_targets.proofs.captors.grow_slots.Goals as goal

pub longer-preserved : goal.longer-preserved
longer-preserved c = λ k. longer c.longer.slots.items c.push.new.self.items c.new.result k
    c.in_ok-push.ensures.items c.new.ensures ∙ c.longer.invariant k
