use Rattle.std.proofs.Common.{ℕ, List, map, ap, sym, ◌∙◌, subst, append_assoc}
use Rattle.ij_io.specs.Bytes.{AddsPart}
use Rattle.ij_io.proofs.Adding.{adds_front, adds_then_part, at_refusal}
use Rattle.instruments.specs.Seen.{seen_model}
use Rattle.report.specs.Registers.{registers_text}
use Rattle.report.specs.Totalled.{direct_text}
use Rattle.report.specs.Instruments.{instruments_text}
use Rattle.direct_report.specs.Tally.{Tally, Keeps}
use Rattle.direct_report.specs.Report.{end_text}
use Rattle.direct_report.proofs.Keeping.{end_same}
use Rattle.direct_report.proofs.play.DirectPlay.finish.Goals as goal

pub returns-in_err-put_values-clause-part : goal.returns-in_err-put_values-clause-part
returns-in_err-put_values-clause-part g c d k =
    let i = c.self.inside in
    let v = c.self.invariant in
    let kept = subst (λ (x : Tally). Keeps x d) (sym c.self.view_is) k in
    let text = append_assoc (registers_text i.net.now i.values.holds) (instruments_text i.net.now
    (map seen_model i.models.now.items) i.values.insts) (direct_text i.reads i.differs)
    ∙ end_same i.net.now i.models.now.items i.values i.values i.reads
    i.differs v.same_net v.same_models d kept
    ∙ ap (λ (x : Tally). end_text x.net x.models d) c.self.view_is in
    at_refusal _ (subst (λ (t : List ℕ). AddsPart (g.K.Sink.taken c.args.k.now)
    (g.K.Sink.taken c.put_values.new.k) t) text (adds_front _ c.in_err-put_values.ensures.part))

pub returns-in_err-put_totals-clause-part : goal.returns-in_err-put_totals-clause-part
returns-in_err-put_totals-clause-part g c d k =
    let i = c.self.inside in
    let v = c.self.invariant in
    let kept = subst (λ (x : Tally). Keeps x d) (sym c.self.view_is) k in
    let text = append_assoc (registers_text i.net.now i.values.holds) (instruments_text i.net.now
    (map seen_model i.models.now.items) i.values.insts) (direct_text i.reads i.differs)
    ∙ end_same i.net.now i.models.now.items i.values i.values i.reads
    i.differs v.same_net v.same_models d kept
    ∙ ap (λ (x : Tally). end_text x.net x.models d) c.self.view_is in
    at_refusal _
    (subst (λ (t : List ℕ). AddsPart (g.K.Sink.taken c.args.k.now) (g.K.Sink.taken c.put_totals.new.k) t)
    text (adds_then_part c.in_ok-put_values.ensures.whole c.in_err-put_totals.ensures.part))
