use Rattle.std.proofs.Common.{length, ap, ◌∙◌}
use Rattle.std.specs.Prelude.{map}
use Rattle.instruments.specs.Runners.{machines_of}
use Rattle.net_graph.specs.SeenSteps.{Apply, Run, Reset, seen_group}
use Rattle.pdl_meaning.specs.Direct.{Direct}
use Rattle.pdl_meaning.specs.States.{SeenDirect, SeenState, with_reads}
use Rattle.instruments.specs.declared.Counts.{Counts}
use Rattle.pdl_meaning.proofs.Counting.{step_counted, kept_counted}
use Rattle.pdl_meaning.proofs.direct.Direct.step.Goals as goal

pub returns-in-Apply-clause-insts : goal.returns-in-Apply-clause-insts
returns-in-Apply-clause-insts c =
    kept_counted c.apply.result (Apply (map seen_group c.as_slice.result.now)) c.args.self.now
    c.apply.new.self c.apply.ensures.ok c.apply.ensures.err

pub returns-in-Run-clause-insts : goal.returns-in-Run-clause-insts
returns-in-Run-clause-insts c =
    let values = c.self.inside.values in
    let reads = c.self.inside.reads.items in
    ap (λ (d : Direct Counts). length d.insts) (c.run.ensures.state reads)
    ∙ step_counted values.net (machines_of values.models) (Run c.in-Run.cycles) (with_reads values reads)
    ∙ ap (λ (d : SeenDirect). length d.state.insts) c.self.view_is

pub returns-in-Reset-clause-insts : goal.returns-in-Reset-clause-insts
returns-in-Reset-clause-insts c =
    let values = c.self-in-Reset.inside.values in
    ap (λ (s : SeenState). length s.insts) c.reset.ensures
    ∙ step_counted values.net (machines_of values.models) Reset
    (with_reads values c.self-in-Reset.inside.reads.items)
    ∙ ap (λ (d : SeenDirect). length d.state.insts) c.self-in-Reset.view_is
