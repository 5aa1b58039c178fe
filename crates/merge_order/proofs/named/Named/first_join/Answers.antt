use Rattle.net_graph.specs.SeenSteps.{seen_group}
use Rattle.merge_order.proofs.Telling.{open_told, refused_told}
use Rattle.merge_order.proofs.named.Named.first_join.Goals as goal

pub returns-clause-before : goal.returns-clause-before
returns-clause-before c = λ places js same tells k below.
    refused_told places c.args.self.now (seen_group c.args.group.now) c.args.around.now js same tells k
    (c.first_open.ensures.before k below)

pub returns-clause-at : goal.returns-clause-at
returns-clause-at c = λ places js same tells below.
    open_told places c.args.self.now (seen_group c.args.group.now) c.args.around.now js same tells
    c.first_open.result (c.first_open.ensures.at below)
