-- What is written of each kind of bit step.
use Rattle.std.proofs.Common.{◌≡◌, ℕ, suc, Option, List, refl, sym, ap, ◌∙◌, subst, arith, append-nil}
use Rattle.ij_io.specs.Bytes.{Adds, AddsPart}
use Rattle.net_graph.specs.declared.net.Net.{Net}
use Rattle.net_graph.specs.Resets.{reset_holds}
use Rattle.net_graph.specs.SeenSteps.{SeenGroup, Apply, Run, Reset}
use Rattle.net_graph.specs.Signals.{Holds}
use Rattle.net_tree.specs.Form.{Items}
use Rattle.svf_writer.specs.SeenCommands.{Run as RunTest}
use Rattle.svf_writer.specs.Written.{text_of, texts_of, preface_commands}
use Rattle.headline.specs.Script.{step_text, applies_after}
use Rattle.headline.specs.Retargeting.{PlannedGroup, PlannedStep, Applies, Runs, Resets, scanned_of}
use Rattle.headline.specs.Retargeting.{holds_after_step}
use Rattle.headline.proofs.StepKinds.{kind, groups, cycles}
use Rattle.retargeter.specs.Plans.{AreRoundsOf, IsPlanOf}
use Rattle.retargeter.specs.Session.{Session}
use Rattle.retargeter.specs.Writing.{WritesRounds, WritesRoundsPart, IsAfterRounds, WritesStep}
use Rattle.retargeter.specs.Writing.{WritesStepPart, IsAfterStep}

module _ (net : Net) (form : Items) (holds : Holds) where
  abbrev pub RoundsOf : List SeenGroup → PlannedStep → Type 0
  RoundsOf gs x = (rounds : List PlannedGroup) × (x ≡ Applies rounds) × AreRoundsOf net form holds gs rounds

  pub of_apply : (gs : List SeenGroup) (x : PlannedStep)
      → IsPlanOf net form holds (Apply gs) x → RoundsOf gs x
  of_apply gs (Applies rounds) p =
      (rounds, refl, record { groups = ap groups p.of_step; planned = p.planned.1 })
  of_apply gs (Runs k) p = let e : 1 ≡ 0 = ap kind p.of_step in absurd (omega (arith, e))
  of_apply gs Resets p = let e : 2 ≡ 0 = ap kind p.of_step in absurd (omega (arith, e))

  pub of_run : (n : ℕ) (x : PlannedStep) → IsPlanOf net form holds (Run n) x → x ≡ Runs n
  of_run n (Applies rounds) p = let e : 0 ≡ 1 = ap kind p.of_step in absurd (omega (arith, e))
  of_run n (Runs k) p = ap Runs (ap cycles p.of_step)
  of_run n Resets p = let e : 2 ≡ 1 = ap kind p.of_step in absurd (omega (arith, e))

  pub of_reset : (x : PlannedStep) → IsPlanOf net form holds Reset x → x ≡ Resets
  of_reset (Applies rounds) p = let e : 0 ≡ 2 = ap kind p.of_step in absurd (omega (arith, e))
  of_reset (Runs k) p = let e : 1 ≡ 2 = ap kind p.of_step in absurd (omega (arith, e))
  of_reset Resets p = refl

module _ (s : Session) where
  -- the text of a planned step
  abbrev text : PlannedStep → List ℕ
  text x = step_text s.device s.applies (scanned_of s.net s.holds x)

  abbrev after : PlannedStep → Session
  after x = record s {
    holds = holds_after_step s.net s.holds x;
    applies = applies_after s.applies (scanned_of s.net s.holds x);
  }

  module _ (gs : List SeenGroup) (old new : Option (List ℕ)) where
    pub apply_written : WritesRounds s.net s.form s.holds (suc s.applies) gs old new
        → WritesStep s (Apply gs) old new
    apply_written w x p =
        let (rounds, e, r) = of_apply s.net s.form s.holds gs x p in
        subst (λ y. Adds old new (text y)) (sym e) (w rounds r)

    pub apply_part : WritesRoundsPart s.net s.form s.holds (suc s.applies) gs old new
        → WritesStepPart s (Apply gs) old new
    apply_part w x p =
        let (rounds, e, r) = of_apply s.net s.form s.holds gs x p in
        subst (λ y. AddsPart old new (text y)) (sym e) (w rounds r)

  pub apply_after : (gs : List SeenGroup) (n applies : ℕ) (now : Holds)
      → IsAfterRounds s.net s.form s.holds n gs now → applies ≡ suc s.applies
      → IsAfterStep s (Apply gs) (record s { holds = now; applies = applies })
  apply_after gs n applies now h a x p =
      let (rounds, e, r) = of_apply s.net s.form s.holds gs x p in
      ap (λ k. record s { holds = k; applies = applies }) (h rounds r) ∙ ap (λ k. record s
      { holds = holds_after_step s.net s.holds (Applies rounds); applies = k }) a ∙ ap after (sym e)

  module _ (n : ℕ) (old new : Option (List ℕ)) where
    pub run_written : Adds old new (text_of (RunTest n)) → WritesStep s (Run n) old new
    run_written w x p =
        subst (λ y. Adds old new (text y)) (sym (of_run s.net s.form s.holds n x p))
        (subst (Adds old new) (sym (append-nil (text_of (RunTest n)))) w)

    pub run_part : AddsPart old new (text_of (RunTest n)) → WritesStepPart s (Run n) old new
    run_part w x p =
        subst (λ y. AddsPart old new (text y)) (sym (of_run s.net s.form s.holds n x p))
        (subst (AddsPart old new) (sym (append-nil (text_of (RunTest n)))) w)

  pub run_after : (n : ℕ) → IsAfterStep s (Run n) s
  run_after n x p = ap after (sym (of_run s.net s.form s.holds n x p))

  module _ (old new : Option (List ℕ)) where
    pub reset_written : Adds old new (texts_of (preface_commands s.device)) → WritesStep s Reset old new
    reset_written w x p = subst (λ y. Adds old new (text y)) (sym (of_reset s.net s.form s.holds x p)) w

    pub reset_part : AddsPart old new (texts_of (preface_commands s.device)) → WritesStepPart s Reset old new
    reset_part w x p = subst (λ y. AddsPart old new (text y)) (sym (of_reset s.net s.form s.holds x p)) w

  pub reset_after : (now : Holds) → now ≡ reset_holds s.net s.holds
      → IsAfterStep s Reset (record s { holds = now })
  reset_after now h x p = ap (λ k. record s { holds = k }) h
      ∙ ap after (sym (of_reset s.net s.form s.holds x p))
