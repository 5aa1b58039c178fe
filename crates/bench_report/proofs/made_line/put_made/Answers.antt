use Rattle.std.proofs.Common.{ℕ, List, map, subst}
use Rattle.ij_io.specs.Bytes.{Adds}
use Rattle.instruments.specs.Seen.{seen_model}
use Rattle.bench_report.proofs.Counted.{line_is}
use Rattle.bench_report.proofs.made_line.put_made.Goals as goal

pub returns-clause-whole : goal.returns-clause-whole
returns-clause-whole g c =
    let a = c.args in
    subst (λ (text : List ℕ). Adds (g.K.Sink.taken a.k.now) (g.K.Sink.taken c.put_totals.new.k) text)
    (line_is a.net.now a.device.now (map seen_model a.models.now.items) a.commands.now a.groups _ _ _ _ _ _
    c.register_count.ensures c.len.ensures c.len-2.ensures c.scan_count.ensures
    c.in_ok-counted.ensures.clocks c.in_ok-counted.ensures.differs)
    c.in_ok-put_totals.ensures.whole
