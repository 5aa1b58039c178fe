use Rattle.std.proofs.Common.{◌∙◌, ap}
use Rattle.net_graph.proofs.Shapes.{shape, reset-shape}
use Rattle.least_clocks.specs.declared.count.Count.{Count}
use Rattle.least_clocks.proofs.count.Count.reset.Goals as goal

pub returns-clause-holds : goal.returns-clause-holds
returns-clause-holds c =
    ap shape c.reset.ensures
    ∙ reset-shape c.args.net.now c.go_to_idle.new.self.holds
    ∙ ap (λ (x : Count). shape x.holds) c.go_to_idle.ensures.state
    ∙ c.requires.holds
