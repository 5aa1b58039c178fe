use Rattle.std.proofs.Common.{Err, ap, sym, ◌∙◌}
use Rattle.ij_text.specs.Numbers.{seen}
use Rattle.pdl_targets.specs.Targets.{Is}
use Rattle.pdl_targets.proofs.Wide.{fitted_is, fitted_wide}
use Rattle.pdl_targets.proofs.values.fitted.Goals as goal

pub returns-in-Ok : goal.returns-in-Ok
returns-in-Ok c = fitted_is c.args.at c.args.width (seen c.args.number.now) (λ h.
    let e = c.in-Ok.ensures.wide.1 h in absurd cc) ∙ ap Is (sym c.in-Ok.ensures.ok)

pub returns-in-Err-Wide : goal.returns-in-Err-Wide
returns-in-Err-Wide c = record {
  says = fitted_wide c.args.at c.args.width (seen c.args.number.now)
      (c.in-Err-Wide.ensures.wide.0 (ap (λ e. Err e) c.in-Err-Wide.field-0-is));
}
