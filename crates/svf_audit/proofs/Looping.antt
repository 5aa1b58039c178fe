-- An audit goes through its commands one by one.
use Rattle.std.proofs.Common.{◌≡◌, ℕ, ◌+◌, ◌<◌, List, [], ◌∷◌, length, drop, Option, sym, ap, ◌∙◌, subst}
use Rattle.std.specs.Prelude.{get_or, Ok, Err}
use Rattle.std.proofs.lemmas.List.{drop_more}
use Rattle.net_graph.specs.declared.device.Device.{Device}
use Rattle.net_graph.specs.declared.net.Net.{Net}
use Rattle.svf_writer.specs.Fits.{AreFitAfter}
use Rattle.svf_writer.specs.SeenCommands.{SeenCommand, SIR, SDR, Reset, Idle, Run}
use Rattle.tap_machine.specs.Play.{scans_in}
use Rattle.svf_audit.specs.declared.answer.Audit.{Audit}
use Rattle.svf_audit.specs.declared.answer.Audit.TheVariants.{Yes as SaysYes, No as SaysNo}
use Rattle.svf_audit.specs.declared.answer.Cause.{Cause}
use Rattle.svf_audit.specs.declared.auditor.Auditor.{Auditor}
use Rattle.svf_audit.specs.declared.auditor.Halt.{Halt}
use Rattle.svf_audit.specs.declared.auditor.Halt.TheVariants.{OutOfMemory as MemoryHalt, Cause as CauseHalt}
use Rattle.svf_audit.specs.Audit.{Reading, State, Verdict, No, Says, audit_from, step}
use Rattle.svf_audit.specs.Auditing.{last_dr, last_ir, ok, state_of, AreNoted, Ends, FitsNext, Follows, IsNo}
use Rattle.svf_audit.specs.Auditing.{Stops}

pub fits_next : (c : SeenCommand) (ir dr : Option ℕ) (cs : List SeenCommand) → AreFitAfter ir dr (c ∷ cs)
    → FitsNext ir dr c × AreFitAfter (last_ir ir c) (last_dr dr c) cs
fits_next (SIR x) ir dr cs f = f
fits_next (SDR x) ir dr cs f = f
fits_next Reset ir dr cs f = (tt, f)
fits_next Idle ir dr cs f = (tt, f)
fits_next (Run k) ir dr cs f = (tt, f)

pub command_here : (cs : List SeenCommand) (i : ℕ) (c : SeenCommand) → i < length cs
    → c ≡ get_or cs i c → drop i cs ≡ c ∷ drop (i + 1) cs
command_here cs i c l e = drop_more cs i c l ∙ ap (λ y. y ∷ drop (i + 1) cs) (sym e)

-- what the definition says of the rest is what it says of all
abbrev pub Leads : Net → Device → Auditor → List SeenCommand → Verdict → Type 0
Leads net device a cs whole =
    (readings : List Reading) × AreNoted a readings × (audit_from net device (state_of a readings) cs ≡ whole)

module _ (net : Net) (device : Device) (a : Auditor)
    (n : a.registers.net.now ≡ net) (d : a.device.now ≡ device) where
  at_both : (c : SeenCommand) (s : State) (r : State)
      → step a.registers.net.now a.device.now s c ≡ ok r → step net device s c ≡ ok r
  at_both c s r e =
      subst (λ x. step net x s c ≡ ok r) d (subst (λ x. step x a.device.now s c ≡ ok r) n e)

  fails_both : (c : SeenCommand) (s : State) (cause : Cause)
      → step a.registers.net.now a.device.now s c ≡ Err cause → step net device s c ≡ Err cause
  fails_both c s cause e =
      subst (λ x. step net x s c ≡ Err cause) d (subst (λ x. step x a.device.now s c ≡ Err cause) n e)

  pub leads_on : (b : Auditor) (c : SeenCommand) (cs : List SeenCommand) (whole : Verdict)
      → Follows (λ m e s. step m e s c) a b → Leads net device a (c ∷ cs) whole → Leads net device b cs whole
  leads_on b c cs whole f l =
      let g = f.goes l.0 l.1 in (
        g.0,
        g.1,
        sym (ap (λ r. elim r [
          | Ok s ↦ audit_from net device s cs
          | Err cause ↦
              No (a.scans + scans_in (c ∷ [])) cause
        ]) (at_both c (state_of a l.0) (state_of b g.0) g.2)) ∙ l.2,
      )

  pub leads_to_no : (c : SeenCommand) (cs : List SeenCommand) (whole : Verdict) (halt : Halt) (k : ℕ)
      (answer : Audit) → Stops (λ m e s. step m e s c) a halt → k ≡ a.scans + scans_in (c ∷ [])
      → Leads net device a (c ∷ cs) whole → IsNo halt k answer → Says answer whole
  leads_to_no c cs whole MemoryHalt k answer f e l is = absurd is
  leads_to_no c cs whole (CauseHalt cause) k (SaysYes scans) f e l is = absurd is
  leads_to_no c cs whole (CauseHalt cause) k (SaysNo n x) f e l is =
      subst (Says (SaysNo n x)) (sym
      (ap (λ r. elim r [ Ok s ↦ audit_from net device s cs | Err y ↦ No (a.scans + scans_in (c ∷ [])) y ])
      (fails_both c (state_of a l.0) cause (f l.0))) ∙ l.2) (is.0 ∙ e, is.1)

  pub leads_to_end : (whole : Verdict) (answer : Audit) → Ends answer a
      → Leads net device a [] whole → Says answer whole
  leads_to_end whole answer f l =
      subst (λ x. Says answer x) l.2 (subst (λ x. Says answer (audit_from net x (state_of a l.0) [])) d
      (subst (λ x. Says answer (audit_from x a.device.now (state_of a l.0) [])) n (f l.0 l.1)))
