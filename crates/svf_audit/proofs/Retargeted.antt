-- The scans of plans leave every mux in one of its rows, so an audit says yes of them.
use Rattle.std.proofs.Common.{◌≡◌, length, List, [], ◌∷◌, refl, sym, ap, ◌∙◌, subst}
use Rattle.std.specs.Prelude.{map, unwrap_or}
use Rattle.std.proofs.lemmas.List.{length-map}
use Rattle.net_graph.specs.declared.device.Device.{Device}
use Rattle.net_graph.specs.declared.net.Net.{Net}
use Rattle.net_graph.specs.Chain.{IsRoute, chain, put_chain}
use Rattle.net_graph.specs.Nets.{IsNet}
use Rattle.net_graph.specs.Path.{AreListed, route_of}
use Rattle.net_graph.specs.Resets.{reset_holds, start_holds}
use Rattle.net_graph.specs.SeenSteps.{SeenGroup, SeenStep}
use Rattle.net_graph.specs.Signals.{Holds}
use Rattle.net_graph.specs.Writes.{write_all}
use Rattle.net_graph.proofs.Placing.{not_contained}
use Rattle.net_graph.proofs.Routes.{active_route}
use Rattle.net_graph.proofs.Steps.{DifferOn, put_chain-to}
use Rattle.net_tree.specs.Form.{Items}
use Rattle.path_planner.specs.Plans.{AreScans, IsScan}
use Rattle.path_planner.specs.Scannable.{IsScannable}
use Rattle.path_planner.proofs.Plans.{planned}
use Rattle.path_planner.proofs.Starting.{start_scannable, reset_scannable}
use Rattle.svf_writer.specs.SeenCommands.{SeenCommand}
use Rattle.headline.specs.Script.{script_commands}
use Rattle.svf_audit.specs.Audit.{Reading, Yes, audit}
use Rattle.headline.specs.Scans.{scan_of, scans_of, holds_after}
use Rattle.headline.specs.Retargeting.{PlannedGroup, PlannedStep, Applies, Runs, Resets, rounds_of}
use Rattle.headline.specs.Retargeting.{holds_after_rounds, script_of, IsPlannedGroup, GroupsArePlanned}
use Rattle.headline.specs.Retargeting.{StepsArePlanned, IsRetargetable}
use Rattle.headline.proofs.Retargeting.{can_open, does, rounds_listed, plans_are_scripts}
use Rattle.headline.proofs.Right.{steps_same}
use Rattle.svf_audit.specs.Listed.{following_scan, after_scans, ScansList, after_rounds, RoundsList}
use Rattle.svf_audit.specs.Listed.{ScriptLists}
use Rattle.svf_audit.specs.Own.{PlansList, PlansPass, PlanTextsPass}
use Rattle.svf_audit.proofs.Own.{planned_scripts_pass, planned_texts_pass}

-- after the scan of a plan are the writes of the plan
scan_lands : (net : Net) → IsNet net → (h : Holds) (p : SeenGroup) → IsScan net h p
    → following_scan net h (scan_of net h (route_of net h) p) ≡ write_all h p.writes
scan_lands net w h p s =
    let path = s.step.path in
    let after = write_all h p.writes in
    let wide : length h ≡ length net.regs.items = sym (length-map h length) ∙ ap length s.scannable.widths
    ∙ length-map net.regs.items (λ reg. reg.width) in
    let route : IsRoute (length h) path =
    subst (λ n. IsRoute n path) (sym wide) (active_route net h path w s.step.traced) in
    let differ : DifferOn path h after =
    record { shapes = s.step.shape; off = λ r m. s.step.off_path r (not_contained path r m) } in
    ap (λ o. put_chain (unwrap_or o []) (chain (unwrap_or o []) after) h) s.step.traced
    ∙ put_chain-to path h after route differ

scannable_now : (net : Net) (h : Holds) (ps : List SeenGroup) → AreScans net h ps → IsScannable net h
scannable_now net h [] a = a
scannable_now net h (p ∷ ps) a = a.0.scannable

module _ (net : Net) (w : IsNet net) where
  scans_land : (ps : List SeenGroup) (h : Holds) → AreScans net h ps
      → after_scans net h (scans_of net h ps) ≡ holds_after h ps
  scans_land [] h a = refl
  scans_land (p ∷ ps) h a =
      let next = write_all h p.writes in
      ap (λ k. after_scans net k (scans_of net next ps)) (scan_lands net w h p a.0) ∙ scans_land ps next a.1

  scans_list : (ps : List SeenGroup) (h : Holds) → AreScans net h ps → ScansList net h (scans_of net h ps)
  scans_list [] h a = tt
  scans_list (p ∷ ps) h a =
      let next = write_all h p.writes in
      subst (λ k. AreListed net k × ScansList net k (scans_of net next ps)) (sym (scan_lands net w h p a.0))
      ((scannable_now net next ps a.1).rows, scans_list ps next a.1)

module _ (net : Net) (form : Items) (c : IsRetargetable net form) where
  abbrev w : IsNet net
  w = c.well_formed

  -- before each plan of a round, and after the last, each mux is in one of its rows
  scanned : (h : Holds) (p : PlannedGroup) → IsScannable net h
      → (a : IsPlannedGroup net form h p) → AreScans net h p.plans
  scanned h p s a = (planned net form p.group h p.plans (can_open net form c h p s a) a.plans).scans

  following : (h : Holds) (p : PlannedGroup) → IsScannable net h → IsPlannedGroup net form h p
      → IsScannable net (holds_after h p.plans)
  following h p s a = (does net form c h p s a).listed

  rounds_land : (ps : List PlannedGroup) (h : Holds) → IsScannable net h → GroupsArePlanned net form h ps
      → after_rounds net h (rounds_of net h ps) ≡ holds_after_rounds h ps
  rounds_land [] h s a = refl
  rounds_land (p ∷ ps) h s a =
      let scans = scanned h p s a.0 in
      let next = holds_after h p.plans in
      ap (λ k. after_rounds net k (rounds_of net next ps)) (scans_land net w p.plans h scans)
      ∙ rounds_land ps next (following h p s a.0) a.1

  rounds_list : (ps : List PlannedGroup) (h : Holds) → IsScannable net h
      → GroupsArePlanned net form h ps → RoundsList net h (rounds_of net h ps)
  rounds_list [] h s a = tt
  rounds_list (p ∷ ps) h s a =
      let scans = scanned h p s a.0 in
      let next = holds_after h p.plans in (
        scans_list net w p.plans h scans,
        subst (λ k. RoundsList net k (rounds_of net next ps))
            (sym (scans_land net w p.plans h scans)) (rounds_list ps next (following h p s a.0) a.1),
      )

  steps_list : (xs : List PlannedStep) (h : Holds) → IsScannable net h → StepsArePlanned net form h xs
      → ScriptLists net h (script_of net h xs)
  steps_list [] h s a = tt
  steps_list (Applies rounds ∷ xs) h s a =
      let next = holds_after_rounds h rounds in (
        rounds_list rounds h s a.1,
        subst (λ k. ScriptLists net k (script_of net next xs)) (sym
            (rounds_land rounds h s a.1)) (steps_list xs next (rounds_listed net form c h rounds s a.1) a.2),
      )
  steps_list (Runs n ∷ xs) h s a = steps_list xs h s a.1
  steps_list (Resets ∷ xs) h s a =
      steps_list xs (reset_holds net h) (reset_scannable net form c.lawful h s) a

pub plans_list : PlansList
plans_list net form xs c a =
    steps_list net form c xs (start_holds net) (start_scannable net form c.lawful) a

abbrev Says : Net → Device → List SeenCommand → List SeenStep → Type 0
Says net device commands steps = (readings : List Reading) × (audit net device steps commands ≡ Yes readings)

pub plans_pass : PlansPass
plans_pass net form device xs c v a =
    let ds = script_of net (start_holds net) xs in
    subst (Says net device (script_commands device ds)) (steps_same net (start_holds net) xs)
    (planned_scripts_pass net device ds c.well_formed v
    (plans_are_scripts net form xs c a) (plans_list net form xs c a))

pub plan_texts_pass : PlanTextsPass
plan_texts_pass net form device xs commands c v a short read =
    let ds = script_of net (start_holds net) xs in
    subst (Says net device commands) (steps_same net (start_holds net) xs) (planned_texts_pass net device ds
    commands c.well_formed v (plans_are_scripts net form xs c a) (plans_list net form xs c a) short read)
