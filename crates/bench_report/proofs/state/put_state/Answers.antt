use Rattle.std.proofs.Common.{◌≡◌, ◌++◌, List, map, ap, ◌∙◌}
use Rattle.ij_io.proofs.Adding.{part_as, whole_as}
use Rattle.instruments.specs.declared.Counts.{Counts}
use Rattle.instruments.specs.OnNetwork.{Running}
use Rattle.instruments.specs.Runners.{insts_of}
use Rattle.instruments.specs.Seen.{seen_model}
use Rattle.net_graph.specs.Signals.{Holds}
use Rattle.report.specs.Instruments.{instruments_text}
use Rattle.report.specs.Registers.{registers_text}
use Rattle.bench_report.proofs.state.put_state.Goals as goal

pub returns-clause-whole : goal.returns-clause-whole
returns-clause-whole g c =
    let net = c.args.net.now in
    let ms = map seen_model c.args.models.now.items in
    whole_as c.put_state.result _ _
    (ap (λ (h : Holds). registers_text net h ++ instruments_text net ms (insts_of c.runners.result.now))
    c.holds.ensures.holds
    ∙ ap (λ (x : List (Running Counts)). registers_text net c.args.bench.now.state.holds ++ instruments_text
    net ms x)
    c.runners.ensures.insts) c.put_state.ensures.whole

pub returns-clause-part : goal.returns-clause-part
returns-clause-part g c =
    let net = c.args.net.now in
    let ms = map seen_model c.args.models.now.items in
    part_as c.put_state.result _ _
    (ap (λ (h : Holds). registers_text net h ++ instruments_text net ms (insts_of c.runners.result.now))
    c.holds.ensures.holds
    ∙ ap (λ (x : List (Running Counts)). registers_text net c.args.bench.now.state.holds ++ instruments_text
    net ms x)
    c.runners.ensures.insts) c.put_state.ensures.part
