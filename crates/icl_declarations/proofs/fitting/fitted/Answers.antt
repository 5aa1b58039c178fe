use Rattle.std.proofs.Common.{◌≡◌, Result, Ok, Err, ap}
use Rattle.ij_bits.specs.declared.tern.Tern.{Tern}
use Rattle.ij_text.specs.declared.number.FitFault.{FitFault}
use Rattle.ij_text.specs.Numbers.{tern_bits}
use Rattle.icl_declarations.proofs.WideBits.{within, beyond}
use Rattle.icl_declarations.proofs.fitting.fitted.Goals as goal

never : {T E : Type 0} (t : T) (e : E) → ◌≡◌ {A = Result T E} (Ok t) (Err e) → ⊥
never t e h = absurd cc

pub returns-in-Ok : goal.returns-in-Ok
returns-in-Ok c = within c.args.width (tern_bits c.args.t) (tern_bits c.in-Ok.t)
    (λ w. never {E = FitFault} c.in-Ok.t _ (c.in-Ok.ensures.wide.1 w)) c.in-Ok.ensures.ok

pub returns-in-Err-Wide : goal.returns-in-Err-Wide
returns-in-Err-Wide c =
    let known = c.in-Err-Wide.field-0-is in beyond c.args.width (tern_bits c.args.t)
    (c.in-Err-Wide.ensures.wide.0 (ap (λ (e : FitFault). failed e) known))
  where
    failed : FitFault → Result Tern FitFault
    failed e = Err e
