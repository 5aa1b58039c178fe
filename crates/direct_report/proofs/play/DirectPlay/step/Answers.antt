use Rattle.std.proofs.Common.{map, sym, subst}
use Rattle.instruments.specs.After.{machine_of}
use Rattle.instruments.specs.Machine.{count_log}
use Rattle.instruments.specs.Seen.{seen_model}
use Rattle.net_graph.specs.SeenSteps.{Reset, Run, seen_step}
use Rattle.net_graph.specs.declared.step.BitStep.{BitStep}
use Rattle.pdl_meaning.specs.Direct.{do_step}
use Rattle.direct_report.specs.Tally.{Tally, Keeps}
use Rattle.direct_report.proofs.Keeping.{after_reset, after_run, kept_at}
use Rattle.direct_report.proofs.play.DirectPlay.step.Goals as goal

pub returns-in-Run-clause-state : goal.returns-in-Run-clause-state
returns-in-Run-clause-state g c d k =
    let i = c.self.inside in
    let v = c.self.invariant in
    let after = c.run.new.self in
    let kept = subst (λ (x : Tally). Keeps x d) (sym c.self.view_is) k in
    let now = kept_at i.net.now (map seen_model i.models.now.items) after i.reads i.differs in
    let done = after_run i.net.now i.models.now.items i.values after i.reads i.differs v.same_net
    v.same_models d kept c.in-Run.cycles c.run.ensures.state in
    let here = subst (λ (x : Tally). Keeps now
    (do_step count_log x.net (map machine_of x.models) d (Run c.in-Run.cycles))) c.self.view_is done in
    subst (λ (s : BitStep). Keeps now (do_step count_log c.args.self.now.net
    (map machine_of c.args.self.now.models) d (seen_step s))) (sym c.in-Run.is) here

pub returns-in-Reset-clause-state : goal.returns-in-Reset-clause-state
returns-in-Reset-clause-state g c d k =
    let i = c.self-in-Reset.inside in
    let v = c.self-in-Reset.invariant in
    let after = c.reset.new.self in
    let kept = subst (λ (x : Tally). Keeps x d) (sym c.self-in-Reset.view_is) k in
    let now = kept_at i.net.now (map seen_model i.models.now.items) after i.reads i.differs in
    let done = after_reset i.net.now i.models.now.items i.values after i.reads i.differs
    v.same_net v.same_models d kept c.reset.ensures in
    let here = subst (λ (x : Tally). Keeps now (do_step count_log x.net (map machine_of x.models) d Reset))
    c.self-in-Reset.view_is done in
    subst (λ (s : BitStep). Keeps now (do_step count_log c.args.self.now.net
    (map machine_of c.args.self.now.models) d (seen_step s))) (sym c.in-Reset.is) here
