use Rattle.bench_report.specs.Report.{differs_of}
use Rattle.ij_io.proofs.Adding.{at_refusal}
use Rattle.ij_io.specs.Bytes.{AddsPart}
use Rattle.instruments.specs.Seen.{SeenModel, seen_model}
use Rattle.instruments.specs.declared.model.Model.{Model}
use Rattle.merge_order.specs.BitSteps.{bit_steps}
use Rattle.net_graph.specs.SeenSteps.{SeenStep}
use Rattle.pdl_parser.specs.Views.{seen_proc}
use Rattle.pdl_parser.specs.declared.Proc.{Proc}
use Rattle.run_report.specs.Report.{IsRunReport}
use Rattle.std.proofs.Common.{◌≡◌, ◌∙◌, ap, sym, ℕ, List, Option, map, subst}
use Rattle.svf_writer.specs.SeenCommands.{SeenCommand}
use Rattle.ijtag_work.specs.Accepted.{SeenAccepted}
use Rattle.ijtag_work.specs.Order.{run_report}
use Rattle.ijtag_work.specs.Seen.{differing}
use Rattle.ijtag_work.specs.Using.{seen_accepted}
use Rattle.ijtag_work.proofs.Verdicts.{verdict_is}
use Rattle.ijtag_core.proofs.run.put_lines.Goals as goal

-- a report of what was accepted is one of what is handed to the printing
same : (it : SeenAccepted) (commands : List SeenCommand) (text : List ℕ) (models : List SeenModel)
    (steps : List SeenStep) → models ≡ it.models → steps ≡ it.steps → (run_report it commands).gives text
    → IsRunReport it.network.net it.network.form it.device models steps commands text
unfolding run_report
same it commands text models steps m s report =
    subst (λ (ms : List SeenModel). IsRunReport it.network.net it.network.form
    it.device ms steps commands text) (sym m)
    (subst (λ (ss : List SeenStep). IsRunReport it.network.net it.network.form it.device
    it.models ss commands text) (sym s) report)

pub returns-in_err-differs-clause-part : goal.returns-in_err-differs-clause-part
returns-in_err-differs-clause-part g c =
    let it : SeenAccepted = seen_accepted c.args.it.now in
    let net = it.network.net in
    let old : Option (List ℕ) = g.O.Sink.taken c.args.out.now in
    let new : Option (List ℕ) = g.O.Sink.taken c.put_run.new.k in
    let models : map seen_model c.models.result.now.items ≡ it.models =
    ap (λ (ms : List Model). map seen_model ms) c.models.ensures ∙ sym c.models-models.ensures.is in
    let steps : (bit_steps (map seen_proc c.as_slice.result.now) net it.network.form
    c.as_slice-2.result.now).steps ≡ it.steps =
    ap (λ (ps : List Proc). (bit_steps (map seen_proc ps) net it.network.form c.as_slice-2.result.now).steps)
    c.as_slice.ensures
    ∙ ap (λ (name : List ℕ). (bit_steps (map seen_proc c.procedure-procedure.result.now.procs.procs.items) net
    it.network.form name).steps) c.as_slice-2.ensures ∙ sym c.procedure-procedure.ensures.is in
    let part : (text : List ℕ) → (run_report it c.args.commands.now).gives text → AddsPart old new text
    = λ text report. c.in_err-differs.ensures.part text
    (same it c.args.commands.now text _ _ models steps report) in
    at_refusal _ part

pub returns-clause-printed : goal.returns-clause-printed
returns-clause-printed g c =
    let it : SeenAccepted = seen_accepted c.args.it.now in
    let net = it.network.net in
    let models : map seen_model c.models.result.now.items ≡ it.models =
    ap (λ (ms : List Model). map seen_model ms) c.models.ensures ∙ sym c.models-models.ensures.is in
    let steps : (bit_steps (map seen_proc c.as_slice.result.now) net it.network.form
    c.as_slice-2.result.now).steps ≡ it.steps =
    ap (λ (ps : List Proc). (bit_steps (map seen_proc ps) net it.network.form c.as_slice-2.result.now).steps)
    c.as_slice.ensures
    ∙ ap (λ (name : List ℕ). (bit_steps (map seen_proc c.procedure-procedure.result.now.procs.procs.items) net
    it.network.form name).steps) c.as_slice-2.ensures ∙ sym c.procedure-procedure.ensures.is in
    λ text report. c.in_ok-differs.ensures.whole text
    (same it c.args.commands.now text _ _ models steps report)

pub returns-clause-verdict : goal.returns-clause-verdict
returns-clause-verdict g c =
    let it : SeenAccepted = seen_accepted c.args.it.now in
    verdict_is _ (differs_of it.network.net it.device it.models c.args.commands.now) (differing
    c.of_count.result) _ c.of_count.ensures.none c.of_count.ensures.some c.in_ok-differs.ensures.differs (cc)
