use Rattle.std.proofs.Common.{◌+◌, ℕ, List, ◌∙◌, ap, map, sym, subst}
use Rattle.ij_io.specs.Bytes.{Adds, AddsPart}
use Rattle.ij_io.proofs.Adding.{at_refusal}
use Rattle.instruments.specs.After.{machine_of}
use Rattle.instruments.specs.Machine.{count_log}
use Rattle.instruments.specs.Seen.{seen_model}
use Rattle.net_graph.specs.SeenSteps.{Apply, seen_group}
use Rattle.pdl_meaning.specs.Direct.{do_step}
use Rattle.direct_report.specs.Tally.{Tally, Keeps}
use Rattle.direct_report.specs.Report.{step_lines}
use Rattle.direct_report.proofs.Keeping.{after_rounds, kept_at, lines_same, stands_now}
use Rattle.direct_report.proofs.play.DirectPlay.apply.Goals as goal

pub returns-in_err-told-clause-part : goal.returns-in_err-told-clause-part
returns-in_err-told-clause-part g c d k =
    let i = c.self.inside in
    let v = c.self.invariant in
    let gs = map seen_group c.args.rounds.now in
    let kept = subst (λ (x : Tally). Keeps x d) (sym c.self.view_is) k in
    let stands = stands_now i.net.now i.models.now.items i.values i.values i.reads
    i.differs v.same_net v.same_models d kept in
    let text = lines_same i.net.now i.models.now.items i.values i.values i.reads
    i.differs v.same_net v.same_models d kept gs
    ∙ ap (λ (x : Tally). step_lines x.net (map machine_of x.models) d (Apply gs)) c.self.view_is in
    at_refusal _ (subst (λ (t : List ℕ). AddsPart (g.K.Sink.taken c.args.k.now)
    (g.K.Sink.taken c.play_rounds.new.k) t) text (c.in_err-told.ensures.part d stands))

pub returns-clause-whole : goal.returns-clause-whole
returns-clause-whole g c d k =
    let i = c.self.inside in
    let v = c.self.invariant in
    let gs = map seen_group c.args.rounds.now in
    let kept = subst (λ (x : Tally). Keeps x d) (sym c.self.view_is) k in
    let stands = stands_now i.net.now i.models.now.items i.values i.values i.reads
    i.differs v.same_net v.same_models d kept in
    let text = lines_same i.net.now i.models.now.items i.values i.values i.reads
    i.differs v.same_net v.same_models d kept gs
    ∙ ap (λ (x : Tally). step_lines x.net (map machine_of x.models) d (Apply gs)) c.self.view_is in
    subst (λ (t : List ℕ). Adds (g.K.Sink.taken c.args.k.now) (g.K.Sink.taken c.play_rounds.new.k) t) text
    (c.in_ok-told.ensures.whole d stands)

pub returns-clause-state : goal.returns-clause-state
returns-clause-state g c d k =
    let i = c.self.inside in
    let v = c.self.invariant in
    let gs = map seen_group c.args.rounds.now in
    let kept = subst (λ (x : Tally). Keeps x d) (sym c.self.view_is) k in
    let stands = stands_now i.net.now i.models.now.items i.values i.values i.reads
    i.differs v.same_net v.same_models d kept in
    let told = c.in_ok-told.told in
    let after = c.play_rounds.new.values in
    let done = after_rounds i.net.now i.models.now.items i.values after i.reads i.differs v.same_net
    v.same_models d kept gs told.reads told.differs (c.in_ok-told.ensures.state d stands)
    (c.in_ok-told.ensures.counts d stands) in
    subst (λ (x : Tally). Keeps (kept_at i.net.now (map seen_model i.models.now.items) after
    (i.reads + told.reads) (i.differs + told.differs))
    (do_step count_log x.net (map machine_of x.models) d (Apply gs))) c.self.view_is done
