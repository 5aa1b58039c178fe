use Rattle.std.proofs.Common.{ℕ, List, Option, sym, subst}
use Rattle.ij_io.specs.Bytes.{AddsPart}
use Rattle.ij_io.proofs.Adding.{at_refusal}
use Rattle.ijtag_work.specs.Order.{made_totals}
use Rattle.ijtag_work.specs.Using.{seen_accepted}
use Rattle.ijtag_work.proofs.Told.{adds_all}
use Rattle.ijtag_core.proofs.made_totals.put_report.Goals as goal

pub returns-in_err-flush-clause-part : goal.returns-in_err-flush-clause-part
returns-in_err-flush-clause-part g c =
    let text : List ℕ = made_totals (seen_accepted c.args.it.now) c.args.commands.now in
    at_refusal _
    (subst (λ (now : Option (List ℕ)). AddsPart (g.O.Sink.taken c.args.out.now) now text)
    (sym c.flush.ensures.kept) (adds_all c.in_ok-verdict.ensures.printed))
