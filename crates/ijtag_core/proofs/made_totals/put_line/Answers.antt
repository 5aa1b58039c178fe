use Rattle.std.proofs.Common.{◌≡◌, ◌∙◌, ap, sym, ℕ, List, Option, map, subst}
use Rattle.bench_report.specs.MadeReport.{made_report}
use Rattle.bench_report.specs.Report.{differs_of}
use Rattle.ij_io.specs.Bytes.{Adds, AddsPart}
use Rattle.ij_io.proofs.Adding.{at_refusal}
use Rattle.instruments.specs.Seen.{SeenModel, seen_model}
use Rattle.instruments.specs.declared.model.Model.{Model}
use Rattle.ijtag_work.specs.Accepted.{SeenAccepted}
use Rattle.ijtag_work.specs.Order.{made_totals}
use Rattle.ijtag_work.specs.Seen.{differing}
use Rattle.ijtag_work.specs.Using.{seen_accepted}
use Rattle.ijtag_work.proofs.Verdicts.{verdict_is}
use Rattle.ijtag_core.proofs.made_totals.put_line.Goals as goal

pub returns-in_err-differs-clause-part : goal.returns-in_err-differs-clause-part
unfolding made_totals
returns-in_err-differs-clause-part g c =
    let it : SeenAccepted = seen_accepted c.args.it.now in
    let net = it.network.net in
    let old : Option (List ℕ) = g.O.Sink.taken c.args.out.now in
    let new : Option (List ℕ) = g.O.Sink.taken c.put_made.new.k in
    let models : map seen_model c.models.result.now.items ≡ it.models =
    ap (λ (ms : List Model). map seen_model ms) c.models.ensures ∙ sym c.models-models.ensures.is in
    let part : AddsPart old new (made_totals it c.args.commands.now) =
    subst (λ (n : ℕ). AddsPart old new (made_report net it.device it.models c.args.commands.now n))
    c.in_ok-groups.ensures
    (subst (λ (ms : List SeenModel). AddsPart old new (made_report net it.device ms c.args.commands.now
    c.in_ok-groups.groups)) models c.in_err-differs.ensures.part) in
    at_refusal _ part

pub returns-clause-printed : goal.returns-clause-printed
unfolding made_totals
returns-clause-printed g c =
    let it : SeenAccepted = seen_accepted c.args.it.now in
    let net = it.network.net in
    let old : Option (List ℕ) = g.O.Sink.taken c.args.out.now in
    let new : Option (List ℕ) = g.O.Sink.taken c.put_made.new.k in
    let models : map seen_model c.models.result.now.items ≡ it.models =
    ap (λ (ms : List Model). map seen_model ms) c.models.ensures ∙ sym c.models-models.ensures.is in
    subst (λ (n : ℕ). Adds old new (made_report net it.device it.models c.args.commands.now n))
    c.in_ok-groups.ensures
    (subst (λ (ms : List SeenModel). Adds old new (made_report net it.device ms c.args.commands.now
    c.in_ok-groups.groups)) models c.in_ok-differs.ensures.whole)

pub returns-clause-verdict : goal.returns-clause-verdict
returns-clause-verdict g c =
    let it : SeenAccepted = seen_accepted c.args.it.now in
    let models : map seen_model c.models.result.now.items ≡ it.models =
    ap (λ (ms : List Model). map seen_model ms) c.models.ensures ∙ sym c.models-models.ensures.is in
    verdict_is _ (differs_of it.network.net it.device it.models c.args.commands.now) (differing
    c.of_count.result) _ c.of_count.ensures.none c.of_count.ensures.some c.in_ok-differs.ensures.differs
    (ap (λ (ms : List SeenModel). differs_of it.network.net it.device ms c.args.commands.now) models)
