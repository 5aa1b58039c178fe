use Rattle.std.proofs.Common.{◌≡◌, ◌∙◌, ap, sym, ℕ, List, Option, map, subst}
use Rattle.direct_report.specs.Report.{direct_report, direct_differs}
use Rattle.ij_io.specs.Bytes.{Adds, AddsPart}
use Rattle.ij_io.proofs.Adding.{at_refusal}
use Rattle.instruments.specs.Seen.{SeenModel, seen_model}
use Rattle.instruments.specs.declared.model.Model.{Model}
use Rattle.merge_order.specs.BitSteps.{BitStepsOf}
use Rattle.net_graph.specs.SeenSteps.{SeenStep}
use Rattle.ijtag_work.specs.Accepted.{SeenAccepted}
use Rattle.ijtag_work.specs.Order.{meaning_of}
use Rattle.ijtag_work.specs.Seen.{differing}
use Rattle.ijtag_work.specs.Using.{seen_accepted}
use Rattle.ijtag_work.proofs.Verdicts.{verdict_is}
use Rattle.ijtag_core.proofs.direct.put_lines.Goals as goal

pub returns-in_err-differs-clause-part : goal.returns-in_err-differs-clause-part
unfolding meaning_of
returns-in_err-differs-clause-part g c =
    let it : SeenAccepted = seen_accepted c.args.it.now in
    let old : Option (List ℕ) = g.O.Sink.taken c.args.out.now in
    let new : Option (List ℕ) = g.O.Sink.taken c.put_direct-told.new.k in
    let models : map seen_model c.models.result.now.items ≡ it.models =
    ap (λ (ms : List Model). map seen_model ms) c.models.ensures ∙ sym c.models-models.ensures.is in
    let steps : c.in_ok-steps.steps.steps
    ≡ it.steps = ap (λ (b : BitStepsOf). b.steps) c.in_ok-steps.ensures ∙ sym c.procedure.ensures.is in
    let part : AddsPart old new (meaning_of it) =
    subst (λ (ss : List SeenStep). AddsPart old new (direct_report it.network.net it.models ss)) steps
    (subst (λ (ms : List SeenModel). AddsPart old new
    (direct_report it.network.net ms c.in_ok-steps.steps.steps)) models c.in_err-differs.ensures.part) in
    at_refusal _ part

pub returns-clause-printed : goal.returns-clause-printed
unfolding meaning_of
returns-clause-printed g c =
    let it : SeenAccepted = seen_accepted c.args.it.now in
    let old : Option (List ℕ) = g.O.Sink.taken c.args.out.now in
    let new : Option (List ℕ) = g.O.Sink.taken c.put_direct-told.new.k in
    let models : map seen_model c.models.result.now.items ≡ it.models =
    ap (λ (ms : List Model). map seen_model ms) c.models.ensures ∙ sym c.models-models.ensures.is in
    let steps : c.in_ok-steps.steps.steps
    ≡ it.steps = ap (λ (b : BitStepsOf). b.steps) c.in_ok-steps.ensures ∙ sym c.procedure.ensures.is in
    subst (λ (ss : List SeenStep). Adds old new (direct_report it.network.net it.models ss)) steps
    (subst (λ (ms : List SeenModel). Adds old new (direct_report it.network.net ms c.in_ok-steps.steps.steps))
    models c.in_ok-differs.ensures.whole)

pub returns-clause-verdict : goal.returns-clause-verdict
returns-clause-verdict g c =
    let it : SeenAccepted = seen_accepted c.args.it.now in
    let models : map seen_model c.models.result.now.items ≡ it.models =
    ap (λ (ms : List Model). map seen_model ms) c.models.ensures ∙ sym c.models-models.ensures.is in
    let steps : c.in_ok-steps.steps.steps
    ≡ it.steps = ap (λ (b : BitStepsOf). b.steps) c.in_ok-steps.ensures ∙ sym c.procedure.ensures.is in
    verdict_is _ (direct_differs it.network.net it.models it.steps) (differing c.of_count.result) _
    c.of_count.ensures.none c.of_count.ensures.some c.in_ok-differs.ensures.differs
    (ap (λ (ms : List SeenModel). direct_differs it.network.net ms c.in_ok-steps.steps.steps) models
    ∙ ap (λ (ss : List SeenStep). direct_differs it.network.net it.models ss) steps)
