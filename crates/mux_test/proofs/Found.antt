-- The test of a network's muxes: on the bench it is quiet, and a stuck mux that is seen is found.
use Rattle.std.proofs.Common.{◌≡◌, ⊎_elim, ℕ, ◌<◌, ◌≤◌, true, List, [], ◌∷◌, ◌++◌, length, refl, sym, ap, ◌∙◌}
use Rattle.std.proofs.Common.{subst, arith}
use Rattle.std.specs.Prelude.{map}
use Rattle.std.specs.List.{flat_map}
use Rattle.std.proofs.lemmas.Bool.{cases_lt, true≢false}
use Rattle.std.proofs.lemmas.List.{append-nil}
use Rattle.instruments.specs.Machine.{Log, Machine, whole_log}
use Rattle.net_graph.specs.declared.branch.Branch.{Branch}
use Rattle.net_graph.specs.declared.device.Device.{Device}
use Rattle.net_graph.specs.declared.net.Net.{Net}
use Rattle.net_graph.specs.Devices.{IsDevice}
use Rattle.net_graph.specs.Path.{route_of}
use Rattle.net_graph.specs.Resets.{start_holds}
use Rattle.net_graph.specs.Signals.{Holds, hold_at}
use Rattle.net_graph.proofs.Routes.{route_is}
use Rattle.net_graph.proofs.Shapes.{capture_widths, widths}
use Rattle.net_graph.specs.Stuck.{stuck_route}
use Rattle.net_graph.proofs.Stuck.{stuck_route_is}
use Rattle.net_tree.specs.Form.{Items}
use Rattle.path_planner.specs.Opening.{AreUnseen, last_holds}
use Rattle.path_planner.specs.Scannable.{IsScannable}
use Rattle.path_planner.proofs.Starting.{start_scannable}
use Rattle.svf_writer.specs.SeenCommands.{SDR, SeenCommand}
use Rattle.svf_writer.specs.Written.{preface_commands}
use Rattle.net_bench.specs.Bench.{Chip, State, fault_free, power_up}
use Rattle.net_bench.specs.Playing.{compares_from, differing, play_from}
use Rattle.tap_machine.specs.declared.Stable.TheVariants.{Idle as InIdle}
use Rattle.net_bench.proofs.PublicLaws.{plays_split, rests_as}
use Rattle.mux_test.specs.Seen.{begins, is_seen, is_seen_in_test}
use Rattle.mux_test.specs.Test.{flushes, scanned, tested_from, branches}
use Rattle.mux_test.specs.Laws.{IsTestable, stuck, after_scans, after_test, compared, TestsAreQuiet}
use Rattle.mux_test.specs.Laws.{StuckAreFound, RowsAreReached}
use Rattle.mux_test.proofs.Flushing.{Rests}
use Rattle.mux_test.proofs.Playing.{AreQuiet, quiet, finds_stuck, flushes_whole, data_as}
use Rattle.mux_test.proofs.Preface.{preface_plays, preface_compares_nothing, preface_rests}
use Rattle.mux_test.proofs.Testing.{all_branches, no_branches, not_empty, test_reached, test_unseen}
use Rattle.net_bench.proofs.Wide.{captures_wide}

-- the first of some scans
first_unseen : (net : Net) (h : Holds) (xs ys : List Holds) → AreUnseen net h (xs ++ ys) → AreUnseen net h xs
first_unseen net h [] ys u = tt
first_unseen net h (x ∷ xs) ys u = (u.0, first_unseen net x xs ys u.1)

none_first : (xs ys : List Holds) → xs ++ ys ≡ [] → xs ≡ []
none_first [] ys e = refl
none_first (x ∷ xs) ys e = let l : length (x ∷ xs ++ ys) ≡ 0 = ap length e in absurd (omega (arith, l))

module _ (net : Net) (form : Items) (t : IsTestable net form) where
  abbrev start : Holds
  start = start_holds net

  abbrev hs : List Holds
  hs = scanned net form

  wide : capture_widths net ≡ widths net
  wide = captures_wide net net.regs.items t.well_formed.regs

  scannable : IsScannable net start
  scannable = start_scannable net form t.lawful

  unseen : AreUnseen net start hs
  unseen = test_unseen net form t (branches net) start (all_branches net form t) scannable

  no_scans : length net.muxes.items ≤ 0 → hs ≡ []
  no_scans none = ap (λ bs. flat_map (λ r. r.after) (tested_from net form start bs))
      (no_branches net.muxes.items 0 none)

  module _ {L : Type 0} (log : Log L) (device : Device) (machines : List Machine) (v : IsDevice device) where
    some : 0 < device.ir
    some = omega (arith, v.two_bits)

    -- ---- the test after the preface

    module _ (path : Holds → List ℕ) where
      abbrev chip : Chip L
      chip = record { net = net; device = device; machines = machines; log = log; path = path }

      abbrev pre : List SeenCommand
      pre = preface_commands device

      abbrev s : State L
      s = play_from chip 0 pre (power_up chip)

      abbrev all : List SeenCommand
      all = map SDR (flushes net start hs)

      s_rests : Rests chip s
      s_rests = preface_rests chip some

      s_holds : s.holds ≡ start
      s_holds = ap (λ (z : State L). z.holds) (preface_plays chip some)

      s_insts : s.insts ≡ (power_up chip).insts
      s_insts = ap (λ (z : State L). z.insts) (preface_plays chip some)

      plays : (first : List Holds)
          → after_scans chip first ≡ play_from chip 1 (map SDR (flushes net start first)) s
      plays first =
          (plays_split chip 0 pre (map SDR (flushes net start first)) (power_up chip)
          (flushes_whole net start first) (rests_as InIdle s s_rests.idle)).0

      compares : compared chip form ≡ compares_from chip 1 all s
      compares =
          (plays_split chip 0 pre all (power_up chip)
          (flushes_whole net start hs) (rests_as InIdle s s_rests.idle)).1
          ∙ ap (λ cs. cs ++ compares_from chip 1 all s) (preface_compares_nothing chip some)

      here : (P : Holds → Type 0) → P start → P s.holds
      here P p = subst P (sym s_holds) p

    -- ---- without faults

    abbrev good : Chip L
    good = fault_free log net device machines

    module _ (first later : List Holds) (both : first ++ later ≡ hs) where
      with_muxes : 0 < length net.muxes.items → AreQuiet good 1 (s (route_of net)) start first
      with_muxes some_mux =
          let s0 = s (route_of net) in
          let u = first_unseen net start first later (subst (AreUnseen net start) (sym both) unseen) in
          subst (λ z. AreQuiet good 1 s0 z first) (s_holds (route_of net)) (quiet good t.well_formed wide
          (λ h. route_is net h t.well_formed) (not_empty net form t some_mux) (λ h. refl) first 1 s0
          (s_rests (route_of net)) (here (route_of net) (IsScannable net) scannable)
          (here (route_of net) (λ z. AreUnseen net z first) u))

      good_quiet : AreQuiet good 1 (s (route_of net)) start first
      good_quiet =
          ⊎_elim (λ some_mux. with_muxes some_mux) (λ none. subst (AreQuiet good 1 (s (route_of net)) start)
          (sym (none_first first later (both ∙ no_scans none))) (record {
            holds = s_holds (route_of net);
            insts = refl;
            none = refl;
          })) (cases_lt 0 (length net.muxes.items))

      pub scans_held : (after_scans good first).holds ≡ last_holds start first
      scans_held = ap (λ (z : State L). z.holds) (plays (route_of net) first) ∙ good_quiet.holds

    pub quiet_test : (differing (compared good form) ≡ [])
        × ((after_test good form).insts ≡ (power_up good).insts)
        × ((after_test good form).holds ≡ last_holds start hs)
    quiet_test =
        let all_quiet = good_quiet hs [] (append-nil hs) in (
          ap differing (compares (route_of net)) ∙ all_quiet.none,
          ap (λ (z : State L). z.insts) (plays (route_of net) hs) ∙ all_quiet.insts ∙ s_insts (route_of net),
          scans_held hs [] (append-nil hs),
        )

    -- ---- with a stuck mux

    module _ (b : Branch) (seen : is_seen_in_test net form b ≡ true) where
      abbrev bad : Chip L
      bad = stuck log net device machines b

      abbrev way : Holds → List ℕ
      way = stuck_route net b

      finds : 0 < length net.muxes.items → 1 ≤ length (differing (compares_from bad 1 (all way) (s way)))
      finds some_mux =
          let s0 = s way in
          subst (λ z. 1 ≤ length (differing (compares_from bad 1 (map SDR (flushes net z hs)) s0)))
          (s_holds way) (finds_stuck bad t.well_formed wide (λ h. stuck_route_is net b h t.well_formed)
          (not_empty net form t some_mux) b (λ h. refl) hs 1 s0 (s_rests way)
          (here way (IsScannable net) scannable) (here way (λ z. AreUnseen net z hs) unseen)
          (here way (λ z. is_seen net b (begins z hs) ≡ true) seen))

      pub stuck_found : 1 ≤ length (differing (compared bad form))
      stuck_found =
          subst (λ cs. 1 ≤ length (differing cs)) (sym (compares way))
          (⊎_elim (λ some_mux. finds some_mux) (λ none. absurd
          (true≢false (sym (sym (ap (λ ks. is_seen net b (begins start ks)) (no_scans none)) ∙ seen))))
          (cases_lt 0 (length net.muxes.items)))

pub tests_are_quiet : TestsAreQuiet
tests_are_quiet net form device machines t v =
    let (none, insts, holds) = quiet_test net form t whole_log device machines v in
    record {
      none_differs = none;
      no_event = insts;
      data_stays = λ b f. ap (λ h. hold_at h b) holds
          ∙ data_as net (start_holds net) (scanned net form) b (unseen net form t) f;
      stages = scans_held net form t whole_log device machines v;
    }

pub stuck_are_found : StuckAreFound
stuck_are_found net form device machines b t v seen =
    stuck_found net form t whole_log device machines v b seen

pub rows_are_reached : RowsAreReached
rows_are_reached net form t = test_reached net form t (branches net) (start_holds net)
    (all_branches net form t) (start_scannable net form t.lawful)
