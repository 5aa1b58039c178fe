-- The script of planned steps, played: it does what the steps mean, with as few scans in each round as can
-- be.
use Rattle.std.proofs.Common.{◌≡◌, ℕ, ◌+◌, ◌<◌, List, [], ◌∷◌, length, refl, sym, ap, ◌∙◌, subst, arith}
use Rattle.std.specs.Prelude.{All, IsFalse}
use Rattle.net_graph.specs.declared.device.Device.{Device}
use Rattle.net_graph.specs.declared.net.Inst.{Inst}
use Rattle.net_graph.specs.declared.net.Net.{Net}
use Rattle.net_graph.specs.declared.net.PortIn.{PortIn}
use Rattle.net_graph.specs.declared.net.Sig.{Sig}
use Rattle.net_graph.specs.declared.net.Sig.TheVariants.{Absent, Zero, One, Bit, Out}
use Rattle.net_graph.specs.Resets.{reset_holds, start_holds}
use Rattle.net_graph.specs.SeenSteps.{SeenGroup}
use Rattle.net_graph.specs.Selects.{names_select, SelectsDriveNothing}
use Rattle.net_graph.specs.Signals.{Holds}
use Rattle.net_graph.specs.Writes.{write_all}
use Rattle.net_tree.specs.Form.{Items}
use Rattle.path_planner.specs.Least.{IsLeast}
use Rattle.path_planner.specs.Scannable.{IsScannable}
use Rattle.path_planner.proofs.Among.{Among, all_among}
use Rattle.path_planner.proofs.Plans.{planned}
use Rattle.path_planner.proofs.Starting.{start_scannable, reset_scannable}
use Rattle.path_planner.proofs.Step.{drives_no_select}
use Rattle.instruments.specs.Machine.{Log, Machine, whole_log}
use Rattle.tap_machine.specs.Play.{scans_in}
use Rattle.net_bench.specs.Bench.{Chip, State, power_up}
use Rattle.net_bench.specs.Playing.{play_from}
use Rattle.pdl_meaning.specs.Direct.{Direct, power_up as direct_power_up}
use Rattle.svf_writer.specs.Written.{preface_commands}
use Rattle.headline.specs.Agreement.{after_round, means, means_round}
use Rattle.headline.specs.Planned.{ScansDo, RoundsArePlanned}
use Rattle.headline.specs.Script.{Round, Applied, Ran, WasReset, commands_of, rounds_commands, step_of}
use Rattle.headline.proofs.Grouping.{bench, Together}
use Rattle.headline.proofs.PlannedScripts.{has_routes, planned_scripts_play}
use Rattle.headline.proofs.Playing.{ran_plays, was_reset_plays, preface_plays, preface_together}
use Rattle.headline.proofs.Rounds.{group_plays, rounds_play}
use Rattle.headline.proofs.Scanning.{HasRoutes}
use Rattle.headline.specs.Scans.{scans_of, holds_after}
use Rattle.headline.specs.Retargeting.{PlannedGroup, PlannedStep, Applies, Runs, Resets, rounds_of}
use Rattle.headline.specs.Retargeting.{holds_after_rounds, script_of, GroupsArePlanned, StepsArePlanned}
use Rattle.headline.specs.Retargeting.{IsRetargetable, IsOpened, RoundsAreLeast, AreLeast, PlansPlay}
use Rattle.headline.proofs.Retargeting.{can_open, does, rounds_listed, rounds_planned, plans_are_scripts}

-- lawful selects drive no instrument
pub selects_drive_nothing : (net : Net) (form : Items) → IsRetargetable net form → SelectsDriveNothing net
selects_drive_nothing net form c =
    all_among (λ inst. All (λ port. All (λ sig. IsFalse (names_select net sig)) port.bits.items)
    inst.ins.items) net.insts.items (λ inst i. all_among
    (λ port. All (λ sig. IsFalse (names_select net sig)) port.bits.items) inst.ins.items (λ port j.
    all_among (λ sig. IsFalse (names_select net sig)) port.bits.items (λ sig k. at inst port sig i j k)))
  where
    at : (inst : Inst) (port : PortIn) (sig : Sig) → Among inst net.insts.items → Among port inst.ins.items
        → Among sig port.bits.items → IsFalse (names_select net sig)
    at inst port Absent i j k = refl
    at inst port Zero i j k = refl
    at inst port One i j k = refl
    at inst port (Bit b inverted) i j k =
        drives_no_select net form c.well_formed c.describes c.lawful inst port b inverted i j k
    at inst port (Out x y z inverted) i j k = refl

pub length-scans_of : (net : Net) (h : Holds) (ps : List SeenGroup) → length (scans_of net h ps) ≡ length ps
length-scans_of net h [] = refl
length-scans_of net h (p ∷ ps) = omega (arith, length-scans_of net (write_all h p.writes) ps)

module _ {L : Type 0} (log : Log L) (net : Net) (form : Items) (device : Device) (machines : List Machine)
    (c : IsRetargetable net form) (u : SelectsDriveNothing net) (some : 0 < device.ir) where
  abbrev n : HasRoutes net
  n = has_routes net c.well_formed

  abbrev chip : Chip L
  chip = bench log net device machines n u

  abbrev Agree : State L → Direct L → Type 0
  Agree s d = Together log net device machines n u s d

  rounds_least : (ps : List PlannedGroup) (h : Holds) (scans : ℕ) (s : State L) (d : Direct L) → Agree s d
      → s.holds ≡ h → IsScannable net h → GroupsArePlanned net form h ps
      → RoundsAreLeast chip form scans s (rounds_of net h ps)
  rounds_least [] h scans s d t e l a = tt
  rounds_least (p ∷ ps) h scans s d t e l a =
      let g = p.group in
      let xs = scans_of net h p.plans in
      let r : Round = record { group = g; scans = xs } in
      let few = planned net form g h p.plans (can_open net form c h p l a.0) a.0.plans in
      let long = length-scans_of net h p.plans in
      let opened : IsOpened net form h r =
      record {
        plans = p.plans;
        planned = a.0.plans;
        scans = refl;
        least =
            subst (λ k. IsLeast net g h k) (sym long) few.least;
        short = omega (arith, long, few.short);
      } in
      let here : IsOpened net form s.holds r = subst (λ z. IsOpened net form z r) (sym e) opened in
      let done = does net form c h p l a.0 in
      let scan = subst (λ z. ScansDo net g z xs (holds_after h p.plans)) (sym e) done.planned.scans in
      let plays = group_plays log net device machines n u xs scans s d g
      (holds_after h p.plans) t a.0.valid scan in (
        here,
        rounds_least ps (holds_after h p.plans) (scans + length xs) (after_round chip scans s r)
            (means_round chip d r) plays.together plays.holds done.listed a.1,
      )

  steps_least : (xs : List PlannedStep) (h : Holds) (scans : ℕ) (s : State L) (d : Direct L) → Agree s d
      → s.holds ≡ h → IsScannable net h → StepsArePlanned net form h xs
      → AreLeast chip form scans s (script_of net h xs)
  steps_least [] h scans s d t e l a = tt
  steps_least (Applies rounds ∷ xs) h scans s d t e l a =
      let rs = rounds_of net h rounds in
      let after = holds_after_rounds h rounds in
      let planned_rounds = subst (λ z. RoundsArePlanned net z rs after) (sym e)
      (rounds_planned net form c h rounds l a.1) in
      let plays = rounds_play log net device machines n u rs scans s d after t planned_rounds in (
        rounds_least rounds h scans s d t e l a.1,
        steps_least xs after (scans + scans_in (rounds_commands rs))
            (play_from chip scans (rounds_commands rs) s) (means chip d (step_of (Applied rs))) plays.together
            plays.holds (rounds_listed net form c h rounds l a.1) a.2,
      )
  steps_least (Runs k ∷ xs) h scans s d t e l a =
      let plays = ran_plays log net device machines n u some k scans s d t in (
        tt,
        steps_least xs h (scans + scans_in (commands_of device (Ran k)))
            (play_from chip scans (commands_of device (Ran k)) s)
            (means chip d (step_of (Ran k))) plays.together (plays.holds ∙ e) l a.1,
      )
  steps_least (Resets ∷ xs) h scans s d t e l a =
      let plays = was_reset_plays log net device machines n u some scans s d t in (
        tt,
        steps_least xs (reset_holds net h) (scans + scans_in (commands_of device WasReset))
            (play_from chip scans (commands_of device WasReset) s) (means chip d (step_of WasReset))
            plays.together (plays.holds ∙ ap (reset_holds net) e) (reset_scannable net form c.lawful h l) a,
      )

  pub script_least : (xs : List PlannedStep)
      → StepsArePlanned net form (start_holds net) xs → AreLeast chip form 1
      (play_from chip 0 (preface_commands device) (power_up chip)) (script_of net (start_holds net) xs)
  script_least xs a =
      let t = preface_together log net device machines n u some in
      let e = ap (λ (z : State L). z.holds) (preface_plays log net device machines n u some) in
      steps_least xs (start_holds net) 1 (play_from chip 0 (preface_commands device) (power_up chip))
      (direct_power_up log net machines) t e (start_scannable net form c.lawful) a

pub plans_play : PlansPlay
plans_play net form device machines xs c d a =
    let u = selects_drive_nothing net form c in (
      planned_scripts_play net device machines
          (script_of net (start_holds net) xs) c.well_formed u d (plans_are_scripts net form xs c a),
      script_least whole_log net form device machines c u (omega (arith, d.two_bits)) xs a,
    )
