-- What is noted of each kind of bit step.
use Rattle.std.proofs.Common.{◌≡◌, ℕ, suc, List, ◌++◌, sym, ap, ◌∙◌, append-nil}
use Rattle.net_graph.specs.declared.net.Net.{Net}
use Rattle.net_graph.specs.Resets.{reset_holds}
use Rattle.net_graph.specs.SeenSteps.{SeenGroup, Apply, Run, Reset}
use Rattle.net_graph.specs.Signals.{Holds}
use Rattle.net_tree.specs.Form.{Items}
use Rattle.headline.specs.Retargeting.{holds_after_step}
use Rattle.run_report.specs.Noting.{NotesRounds, ScansRounds, HoldsRounds, NotesStep, ScansStep, HoldsStep}
use Rattle.run_report.specs.Places.{step_places, scans_after_step}
use Rattle.run_report.specs.declared.place.ReadPlace.{ReadPlace}
use Rattle.retargeter.proofs.Steps.{of_apply, of_run, of_reset}

module _ (net : Net) (form : Items) (holds : Holds) where
  module _ (gs : List SeenGroup) (scans : ℕ) where
    pub apply_noted : (old new : List ReadPlace) → NotesRounds net form holds gs scans old new
        → NotesStep net form holds (Apply gs) scans old new
    apply_noted old new w x p =
        let (rounds, e, r) = of_apply net form holds gs x p in
        w rounds r ∙ ap (λ y. old ++ step_places net holds scans y) (sym e)

    pub apply_counted : (after : ℕ) → ScansRounds net form holds gs scans after
        → ScansStep net form holds (Apply gs) scans after
    apply_counted after w x p =
        let (rounds, e, r) = of_apply net form holds gs x p in
        w rounds r ∙ ap (scans_after_step scans) (sym e)

  pub apply_held : (gs : List SeenGroup) (after : Holds) → HoldsRounds net form holds gs after
      → HoldsStep net form holds (Apply gs) after
  apply_held gs after w x p =
      let (rounds, e, r) = of_apply net form holds gs x p in
      w rounds r ∙ ap (holds_after_step net holds) (sym e)

  module _ (n scans : ℕ) where
    pub run_noted : (old : List ReadPlace) → NotesStep net form holds (Run n) scans old old
    run_noted old x p =
        sym (append-nil old) ∙ ap (λ y. old ++ step_places net holds scans y)
        (sym (of_run net form holds n x p))

    pub run_counted : ScansStep net form holds (Run n) scans scans
    run_counted x p = ap (scans_after_step scans) (sym (of_run net form holds n x p))

    pub run_held : HoldsStep net form holds (Run n) holds
    run_held x p = ap (holds_after_step net holds) (sym (of_run net form holds n x p))

  module _ (scans : ℕ) where
    pub reset_noted : (old : List ReadPlace) → NotesStep net form holds Reset scans old old
    reset_noted old x p =
        sym (append-nil old) ∙ ap (λ y. old ++ step_places net holds scans y)
        (sym (of_reset net form holds x p))

    pub reset_counted : (after : ℕ) → after ≡ suc scans → ScansStep net form holds Reset scans after
    reset_counted after e x p = e ∙ ap (scans_after_step scans) (sym (of_reset net form holds x p))

  pub reset_held : (after : Holds) → after ≡ reset_holds net holds → HoldsStep net form holds Reset after
  reset_held after e x p = e ∙ ap (holds_after_step net holds) (sym (of_reset net form holds x p))
