use Rattle.std.proofs.Common.{◌≡◌, ◌∙◌, ap, sym, ℕ, List, Option, subst}
use Rattle.ij_io.specs.Bytes.{Adds, AddsPart}
use Rattle.ij_io.proofs.Adding.{at_refusal}
use Rattle.merge_order.specs.BitSteps.{BitStepsOf}
use Rattle.net_graph.specs.SeenSteps.{SeenStep}
use Rattle.svf_audit.specs.Report.{audit_text}
use Rattle.svf_writer.specs.SeenCommands.{SeenCommand}
use Rattle.ijtag_work.specs.Accepted.{SeenAccepted}
use Rattle.ijtag_work.specs.Order.{line_of}
use Rattle.ijtag_work.specs.Using.{seen_accepted}
use Rattle.ijtag_core.proofs.audit.put_line.Goals as goal

pub returns-in_err-yes-clause-part : goal.returns-in_err-yes-clause-part
unfolding line_of
returns-in_err-yes-clause-part g c =
    let it : SeenAccepted = seen_accepted c.args.it.now in
    let old : Option (List ℕ) = g.O.Sink.taken c.args.out.now in
    let new : Option (List ℕ) = g.O.Sink.taken c.put_audit-told.new.k in
    let steps : c.in_ok-steps.steps.steps
    ≡ it.steps = ap (λ (b : BitStepsOf). b.steps) c.in_ok-steps.ensures ∙ sym c.procedure.ensures.is in
    let part : AddsPart old new (line_of it) =
    subst (λ (cs : List SeenCommand). AddsPart old new (audit_text it.network.net it.device it.steps cs))
    (sym c.commands-commands.ensures.is)
    (subst (λ (ss : List SeenStep). AddsPart old new (audit_text it.network.net it.device ss
    c.commands-commands.result.now)) steps c.in_err-yes.ensures.part) in
    at_refusal _ part

pub returns-then-yes-clause-printed : goal.returns-then-yes-clause-printed
unfolding line_of
returns-then-yes-clause-printed g c =
    let it : SeenAccepted = seen_accepted c.args.it.now in
    let old : Option (List ℕ) = g.O.Sink.taken c.args.out.now in
    let new : Option (List ℕ) = g.O.Sink.taken c.put_audit-told.new.k in
    let steps : c.in_ok-steps.steps.steps
    ≡ it.steps = ap (λ (b : BitStepsOf). b.steps) c.in_ok-steps.ensures ∙ sym c.procedure.ensures.is in
    subst (λ (cs : List SeenCommand). Adds old new (audit_text it.network.net it.device it.steps cs))
    (sym c.commands-commands.ensures.is)
    (subst (λ (ss : List SeenStep). Adds old new (audit_text it.network.net it.device ss
    c.commands-commands.result.now)) steps c.in_ok-yes.ensures.whole)

pub returns-else-yes-clause-printed : goal.returns-else-yes-clause-printed
unfolding line_of
returns-else-yes-clause-printed g c =
    let it : SeenAccepted = seen_accepted c.args.it.now in
    let old : Option (List ℕ) = g.O.Sink.taken c.args.out.now in
    let new : Option (List ℕ) = g.O.Sink.taken c.put_audit-told.new.k in
    let steps : c.in_ok-steps.steps.steps
    ≡ it.steps = ap (λ (b : BitStepsOf). b.steps) c.in_ok-steps.ensures ∙ sym c.procedure.ensures.is in
    subst (λ (cs : List SeenCommand). Adds old new (audit_text it.network.net it.device it.steps cs))
    (sym c.commands-commands.ensures.is)
    (subst (λ (ss : List SeenStep). Adds old new (audit_text it.network.net it.device ss
    c.commands-commands.result.now)) steps c.in_ok-yes.ensures.whole)
