use Rattle.std.proofs.Common.{map, subst}
use Rattle.std.specs.Prelude.{OnOk, OnErr}
use Rattle.ij_io.specs.Bytes.{Adds, AddsPart}
use Rattle.instruments.specs.Seen.{seen_model}
use Rattle.net_bench.specs.Board.{SeenBench}
use Rattle.bench_report.specs.Report.{Names, named_report}
use Rattle.bench_report.proofs.play.put_named_play.Goals as goal

pub returns-clause-whole : goal.returns-clause-whole
returns-clause-whole g c =
    let a = c.args in
    subst (λ (b : SeenBench). OnOk c.put_report.result ((ns : Names) → g.N.ReadNames.AreNames a.names.now ns
    → Adds (g.K.Sink.taken a.k.now) (g.K.Sink.taken c.put_report.new.k)
    (named_report ns a.net.now b.device (map seen_model a.models.now.items) a.commands.now)))
    c.in_ok-bench.ensures c.put_report.ensures.whole

pub returns-clause-part : goal.returns-clause-part
returns-clause-part g c =
    let a = c.args in
    subst (λ (b : SeenBench). OnErr c.put_report.result ((ns : Names) → g.N.ReadNames.AreNames a.names.now ns
    → AddsPart (g.K.Sink.taken a.k.now) (g.K.Sink.taken c.put_report.new.k)
    (named_report ns a.net.now b.device (map seen_model a.models.now.items) a.commands.now)))
    c.in_ok-bench.ensures c.put_report.ensures.part
