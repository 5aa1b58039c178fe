use Rattle.bench_report.proofs.Counted.{new_differs}
use Rattle.bench_report.proofs.made_play.played.Goals as goal

pub returns-clause-differs : goal.returns-clause-differs
returns-clause-differs c =
    let a = c.args in
    new_differs a.net.now a.device.now a.models.now.items c.in_ok-bench.bench c.new-player.result.pins
    a.commands.now c.count_play.result.differs c.in_ok-bench.ensures
    c.new-player.ensures.pins c.count_play.ensures.differs
