use Rattle.least_clocks.proofs.Counted.{run_counted}
use Rattle.least_clocks.proofs.count.Count.run.Goals as goal

pub returns-then-cycles-gt0-clause-counts : goal.returns-then-cycles-gt0-clause-counts
returns-then-cycles-gt0-clause-counts c = λ net form device.
    run_counted net form device c.args.self.now c.go_to_idle.new.self c.args.cycles c.from.result
    c.if-cycles-gt0.true c.from.ensures c.go_to_idle.ensures.state
