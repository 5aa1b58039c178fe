use Rattle.std.proofs.Common.{◌<◌, ◌+◌, ◌*◌, ◌∙◌, ap, arith}
use Rattle.net_graph.specs.SeenSteps.{seen_group}
use Rattle.merge_order.specs.Named.{refuses}
use Rattle.merge_order.proofs.Words.{before_or_in}
use Rattle.merge_order.proofs.named.Named.first_open.Goals as goal

pub returns-in-Some-clause-before : goal.returns-in-Some-clause-before
returns-in-Some-clause-before c = λ k below.
    let short : k < 64 * c.loop-w.w + c.in-Some.k = omega (arith, below, c.smaller_of.ensures.before) in
    before_or_in (refuses c.args.self.now (seen_group c.args.group.now) c.args.around.now)
    (64 * c.loop-w.w) c.in-Some.k k c.loop-w.invariant c.in-Some.ensures.before short

pub returns-in-Some-clause-at : goal.returns-in-Some-clause-at
returns-in-Some-clause-at c = λ below.
    ap (refuses c.args.self.now (seen_group c.args.group.now) c.args.around.now)
    (c.smaller_of.ensures.same below) ∙ c.in-Some.ensures.open

pub loop-w-preserved : goal.loop-w-preserved
loop-w-preserved c = λ k below.
    let short : k < 64 * c.loop-w.w + 64 = omega (arith, below) in
    before_or_in (refuses c.args.self.now (seen_group c.args.group.now) c.args.around.now)
    (64 * c.loop-w.w) 64 k c.loop-w.invariant c.in_default.ensures.none short
