use Rattle.std.proofs.Common.{ℕ, List, length, map, ap, ◌∙◌, subst}
use Rattle.ij_io.specs.Bytes.{Adds, AddsPart}
use Rattle.ij_io.proofs.Adding.{adds_both, adds_front, adds_then_part, at_refusal}
use Rattle.instruments.specs.Seen.{seen_model}
use Rattle.net_bench.specs.Playing.{Compare}
use Rattle.bench_report.specs.Report.{Names, named_report, named_lines}
use Rattle.bench_report.proofs.Whole.{differs_are, state_is, totals_are}
use Rattle.bench_report.proofs.play.put_report.Goals as goal

pub returns-in_err-counted-clause-part : goal.returns-in_err-counted-clause-part
returns-in_err-counted-clause-part g c =
    let a = c.args in
    let r = c.requires in
    let ps = c.new-player.result.pins in
    let is = differs_are a.net.now a.models.now.items a.bench.now ps a.commands.now r.net
    r.bench r.start c.new-player.ensures.pins in
    let part : (ns : Names) → g.N.ReadNames.AreNames a.names.now ns
    → AddsPart (g.K.Sink.taken a.k.now) (g.K.Sink.taken c.put_compares.new.k)
    (named_report ns a.net.now a.bench.now.device (map seen_model a.models.now.items) a.commands.now) =
    λ ns are. adds_front _ (subst (λ (l : List Compare). AddsPart (g.K.Sink.taken a.k.now) (g.K.Sink.taken
    c.put_compares.new.k) (named_lines ns l)) is (c.in_err-counted.ensures.part ns are)) in
    at_refusal c.from_residual.result part

pub returns-in_err-put_state-clause-part : goal.returns-in_err-put_state-clause-part
returns-in_err-put_state-clause-part g c =
    let a = c.args in
    let r = c.requires in
    let ps = c.new-player.result.pins in
    let is = differs_are a.net.now a.models.now.items a.bench.now ps a.commands.now r.net
    r.bench r.start c.new-player.ensures.pins in
    let text = state_is a.net.now a.models.now.items a.bench.now ps a.commands.now r.net r.bench r.start
    c.new-player.ensures.pins c.put_compares.new.bench c.in_ok-counted.ensures.state in
    let state = subst (λ (l : List ℕ). AddsPart (g.K.Sink.taken c.put_compares.new.k)
    (g.K.Sink.taken c.put_state.new.k) l) text c.in_err-put_state.ensures.part in
    let part : (ns : Names) → g.N.ReadNames.AreNames a.names.now ns
    → AddsPart (g.K.Sink.taken a.k.now) (g.K.Sink.taken c.put_state.new.k)
    (named_report ns a.net.now a.bench.now.device (map seen_model a.models.now.items) a.commands.now) =
    λ ns are. adds_then_part
    (subst (λ (l : List Compare). Adds (g.K.Sink.taken a.k.now) (g.K.Sink.taken c.put_compares.new.k)
    (named_lines ns l)) is (c.in_ok-counted.ensures.whole ns are)) (adds_front _ state) in
    at_refusal c.from_residual-in_err-put_state.result part

pub returns-in_err-put_totals-clause-part : goal.returns-in_err-put_totals-clause-part
returns-in_err-put_totals-clause-part g c =
    let a = c.args in
    let r = c.requires in
    let ps = c.new-player.result.pins in
    let is = differs_are a.net.now a.models.now.items a.bench.now ps a.commands.now r.net
    r.bench r.start c.new-player.ensures.pins in
    let text = state_is a.net.now a.models.now.items a.bench.now ps a.commands.now r.net r.bench r.start
    c.new-player.ensures.pins c.put_compares.new.bench c.in_ok-counted.ensures.state in
    let state = subst (λ (l : List ℕ). Adds (g.K.Sink.taken c.put_compares.new.k)
    (g.K.Sink.taken c.put_state.new.k) l) text c.in_ok-put_state.ensures.whole in
    let totals = totals_are a.net.now a.models.now.items a.bench.now ps a.commands.now r.net r.bench r.start
    c.new-player.ensures.pins c.scan_count-scans.result c.in_ok-counted.counted.clocks
    c.in_ok-counted.counted.differs c.scan_count-scans.ensures
    c.in_ok-counted.ensures.clocks c.in_ok-counted.ensures.differs in
    let last = subst (λ (l : List ℕ). AddsPart (g.K.Sink.taken c.put_state.new.k)
    (g.K.Sink.taken c.put_totals.new.k) l) totals c.in_err-put_totals.ensures.part in
    let part : (ns : Names) → g.N.ReadNames.AreNames a.names.now ns
    → AddsPart (g.K.Sink.taken a.k.now) (g.K.Sink.taken c.put_totals.new.k)
    (named_report ns a.net.now a.bench.now.device (map seen_model a.models.now.items) a.commands.now) =
    λ ns are. adds_then_part (subst (λ (l : List Compare). Adds (g.K.Sink.taken a.k.now)
    (g.K.Sink.taken c.put_compares.new.k) (named_lines ns l)) is (c.in_ok-counted.ensures.whole ns are))
    (adds_then_part state last) in
    at_refusal c.from_residual-in_err-put_totals.result part

pub returns-clause-whole : goal.returns-clause-whole
returns-clause-whole g c =
    let a = c.args in
    let r = c.requires in
    let ps = c.new-player.result.pins in
    let is = differs_are a.net.now a.models.now.items a.bench.now ps a.commands.now r.net
    r.bench r.start c.new-player.ensures.pins in
    let text = state_is a.net.now a.models.now.items a.bench.now ps a.commands.now r.net r.bench r.start
    c.new-player.ensures.pins c.put_compares.new.bench c.in_ok-counted.ensures.state in
    let state = subst (λ (l : List ℕ). Adds (g.K.Sink.taken c.put_compares.new.k)
    (g.K.Sink.taken c.put_state.new.k) l) text c.in_ok-put_state.ensures.whole in
    let totals = totals_are a.net.now a.models.now.items a.bench.now ps a.commands.now r.net r.bench r.start
    c.new-player.ensures.pins c.scan_count-scans.result c.in_ok-counted.counted.clocks
    c.in_ok-counted.counted.differs c.scan_count-scans.ensures
    c.in_ok-counted.ensures.clocks c.in_ok-counted.ensures.differs in
    let last = subst (λ (l : List ℕ). Adds (g.K.Sink.taken c.put_state.new.k)
    (g.K.Sink.taken c.put_totals.new.k) l) totals c.in_ok-put_totals.ensures.whole in
    λ ns are. adds_both (subst (λ (l : List Compare). Adds (g.K.Sink.taken a.k.now)
    (g.K.Sink.taken c.put_compares.new.k) (named_lines ns l)) is (c.in_ok-counted.ensures.whole ns are))
    (adds_both state last)

pub returns-clause-differs : goal.returns-clause-differs
returns-clause-differs g c =
    let a = c.args in
    let r = c.requires in
    let is = differs_are a.net.now a.models.now.items a.bench.now c.new-player.result.pins a.commands.now
    r.net r.bench r.start c.new-player.ensures.pins in
    c.in_ok-counted.ensures.differs ∙ ap length is
