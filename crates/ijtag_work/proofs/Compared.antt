-- What a play of planned steps compares, step by step: the reads of the steps, at their places.
use Rattle.std.proofs.Common.{◌≡◌, ℕ, zero, suc, ◌+◌, ◌<◌, List, [], ◌∷◌, ◌++◌, length, Some, refl, sym, ap}
use Rattle.std.proofs.Common.{◌∙◌, subst, arith}
use Rattle.std.specs.Prelude.{Contains, map, unwrap_or}
use Rattle.std.proofs.lemmas.List.{append-nil, length-map}
use Rattle.net_graph.specs.declared.device.Device.{Device}
use Rattle.net_graph.specs.declared.net.Net.{Net}
use Rattle.net_graph.specs.declared.step.ReadBit.{ReadBit}
use Rattle.net_graph.specs.Chain.{IsRoute, chain, position, put_chain}
use Rattle.net_graph.specs.Groups.{IsEmpty}
use Rattle.net_graph.specs.Resets.{reset_holds, start_holds}
use Rattle.net_graph.specs.SeenSteps.{SeenGroup}
use Rattle.net_graph.specs.Selects.{SelectsDriveNothing}
use Rattle.net_graph.specs.Signals.{Holds}
use Rattle.net_graph.specs.Writes.{write_all}
use Rattle.net_graph.proofs.Placing.{not_contained}
use Rattle.net_graph.proofs.Shapes.{shape, widths}
use Rattle.net_graph.proofs.Steps.{DifferOn, put_chain-to}
use Rattle.net_graph.specs.Path.{route_of}
use Rattle.net_tree.specs.Form.{Items}
use Rattle.path_planner.specs.Least.{ScanStep}
use Rattle.path_planner.specs.Opening.{CanOpen}
use Rattle.path_planner.specs.Plans.{ArePlans, Settles}
use Rattle.path_planner.specs.Scannable.{IsScannable}
use Rattle.path_planner.proofs.Plans.{at, planned}
use Rattle.path_planner.proofs.Starting.{start_scannable, reset_scannable}
use Rattle.instruments.specs.Machine.{Log, Machine}
use Rattle.svf_writer.specs.SeenCommands.{SDR, SeenScan}
use Rattle.svf_writer.specs.Written.{preface_commands}
use Rattle.tap_machine.specs.Play.{scans_in}
use Rattle.net_bench.specs.Bench.{Chip, State, power_up}
use Rattle.net_bench.specs.Playing.{play_from}
use Rattle.pdl_meaning.specs.Direct.{Direct, do_all, do_rounds, run_cycles, power_up as direct_power_up}
use Rattle.headline.specs.Agreement.{after_round, before_last, finds, group_compares, means, means_round}
use Rattle.headline.specs.Agreement.{read_compare, rounds_compares, script_compares}
use Rattle.headline.specs.Planned.{IsOpening, RoundsArePlanned, ScansDo}
use Rattle.headline.specs.Script.{Round, Applied, Ran, WasReset, commands_of, rounds_commands, step_of}
use Rattle.headline.specs.Script.{steps_of}
use Rattle.headline.proofs.Grouping.{Together, bench, one_more, opening_differs, written_scans}
use Rattle.headline.proofs.PlannedScripts.{has_routes}
use Rattle.headline.proofs.Playing.{preface_plays, preface_together, ran_plays, was_reset_plays}
use Rattle.headline.proofs.ReadPlaces.{scans_in_both}
use Rattle.headline.proofs.Rounds.{group_plays, last_is, opened_holds, opened_together, rounds_play}
use Rattle.headline.proofs.Rounds.{scans_in_map}
use Rattle.headline.proofs.Scanning.{HasRoutes}
use Rattle.headline.specs.Scans.{holds_after, scan_of, scans_of}
use Rattle.headline.specs.Retargeting.{PlannedGroup, PlannedStep, Applies, Runs, Resets, GroupsArePlanned}
use Rattle.headline.specs.Retargeting.{IsRetargetable, StepsArePlanned, holds_after_rounds, rounds_of}
use Rattle.headline.specs.Retargeting.{script_of}
use Rattle.headline.proofs.GroupPlaying.{length-scans_of}
use Rattle.headline.proofs.Retargeting.{can_open, does, rounds_listed, rounds_planned}
use Rattle.headline.proofs.Scanned.{plans_do_groups}
use Rattle.run_report.specs.Places.{places, plans_places, rounds_places, scan_places, scans_after_rounds}
use Rattle.run_report.specs.Places.{steps_places}
use Rattle.ijtag_work.specs.Naming.{compares_at}
use Rattle.ijtag_work.proofs.Naming.{AreAdded, Read, added_both, added_none, reads_found, reads_placed}

-- how many scans rounds have
rounds_count : (net : Net) (ps : List PlannedGroup) (h : Holds) (scans : ℕ)
    → scans + scans_in (rounds_commands (rounds_of net h ps)) ≡ scans_after_rounds scans ps
rounds_count net [] h scans = omega arith
rounds_count net (p ∷ ps) h scans =
    let xs = scans_of net h p.plans in
    let rest = rounds_commands (rounds_of net (holds_after h p.plans) ps) in
    let both : scans + scans_in (map SDR xs ++ rest) ≡ (scans + length p.plans) + scans_in rest =
    omega (arith, scans_in_both (map SDR xs) rest, scans_in_map xs, length-scans_of net h p.plans) in
    both ∙ rounds_count net ps (holds_after h p.plans) (scans + length p.plans)

-- an opening scan has no reads
opening_places : (net : Net) (form : Items) (g : SeenGroup) (h : Holds) (scans : ℕ) (p : SeenGroup)
    (ps : List SeenGroup) → Settles net form g h p
    → plans_places net h scans (p ∷ ps) ≡ plans_places net (write_all h p.writes) (suc scans) ps
opening_places net form g h scans p ps s =
    ap (λ rs. scan_places net h (suc scans) rs
    ++ plans_places net (write_all h p.writes) (suc scans) ps) s.reads_nothing

module _ {L : Type 0} (log : Log L) (net : Net) (form : Items) (device : Device) (machines : List Machine)
    (c : IsRetargetable net form) (u : SelectsDriveNothing net) (some : 0 < device.ir) where
  abbrev n : HasRoutes net
  n = has_routes net c.well_formed

  abbrev pub chip : Chip L
  chip = bench log net device machines n u

  abbrev Agree : State L → Direct L → Type 0
  Agree s d = Together log net device machines n u s d

  -- what an opening scan leaves is what its plan writes
  opened_is : (h next : Holds) (p : SeenGroup) (x : SeenScan) → shape h ≡ widths net → IsOpening net h next x
      → x.tdi ≡ Some (chain (route_of net h) (write_all h p.writes))
      → ScanStep net h (write_all h p.writes) → next ≡ write_all h p.writes
  opened_is h next p x e o tdi step =
      let after = write_all h p.writes in
      let path = o.scans.path in
      let traced : route_of net h ≡ path = ap (λ q. unwrap_or q []) o.scans.traced in
      let stepped : step.path ≡ path = ap (λ q. unwrap_or q []) (sym step.traced ∙ o.scans.traced) in
      let long : length net.regs.items ≡ length h =
      sym (length-map net.regs.items (λ reg. reg.width)) ∙ ap length (sym e) ∙ length-map h length in
      let route : IsRoute (length h) path =
      subst (λ k. IsRoute k path) long (n.routes h path o.scans.traced) in
      let differ : DifferOn path h after = record {
        shapes = step.shape;
        off =
            λ r m. step.off_path r (subst (λ q. ¬ Contains q r) (sym stepped) (not_contained path r m));
      } in
      let shifted : chain path next ≡ chain path after =
      ap (λ q. unwrap_or q []) (sym o.scans.tdi ∙ tdi) ∙ ap (λ q. chain q after) traced in
      sym (put_chain-to path h next route (opening_differs log net device machines n u h next x o))
      ∙ ap (λ bits. put_chain path bits h) shifted
      ∙ put_chain-to path h after route differ

  -- ---- a group

  reads_at : (k : ℕ) (path : List ℕ) (h : Holds) (d : Direct L) (rs : List ReadBit)
      → reads_placed (map (λ r. record { scan = k; bit = position path h r.bit; read = r }) rs)
      ≡ reads_found (map (finds chip d) rs)
  reads_at k path h d [] = refl
  reads_at k path h d (r ∷ rs) = ap (λ xs. r ∷ xs) (reads_at k path h d rs)

  compares_are : (k : ℕ) (path : List ℕ) (h : Holds) (d : Direct L) (rs : List ReadBit)
      → map (λ r. read_compare k path h (finds chip d r)) rs ≡ compares_at
      (map (λ r. record { scan = k; bit = position path h r.bit; read = r }) rs) (map (finds chip d) rs)
  compares_are k path h d [] = refl
  compares_are k path h d (r ∷ rs) =
      ap (λ cs. read_compare k path h (finds chip d r) ∷ cs) (compares_are k path h d rs)

  -- the last scan of a group
  last_added : (k : ℕ) (h : Holds) (d : Direct L) (g : SeenGroup)
      → AreAdded (map (λ r. read_compare k (route_of net h) h (finds chip d r)) g.reads)
      (scan_places net h k g.reads) d.reads (means_round chip d (record { group = g; scans = [] })).reads
  last_added k h d g =
      record {
        new = map (finds chip d) g.reads;
        reads = refl;
        in_order =
            reads_at k (route_of net h) h d g.reads;
        compares = compares_are k (route_of net h) h d g.reads;
      }

  abbrev done : Direct L → SeenGroup → Direct L
  done d g = means_round chip d (record { group = g; scans = [] })

  group_added : (g : SeenGroup) → ¬ IsEmpty g
      → (plans : List SeenGroup) (h : Holds) (scans : ℕ) (s : State L) (d : Direct L) → Agree s d
      → s.holds ≡ h → CanOpen net form g h → ArePlans net form g h plans
      → AreAdded (group_compares chip scans s d g (scans_of net h plans))
      (plans_places net h scans plans) d.reads (done d g).reads
  group_added g named [] h scans s d t e can a = absurd (named a)
  group_added g named (p ∷ []) h scans s d t e can a =
      let one : suc scans ≡ scans + 1 = omega arith in
      let is : scan_places net h (scans + 1) g.reads
      ≡ plans_places net h scans (p ∷ []) = ap (λ k. scan_places net h k g.reads) (sym one)
      ∙ ap (λ (q : SeenGroup). scan_places net h (suc scans) q.reads) (sym a.1)
      ∙ sym (append-nil (scan_places net h (suc scans) p.reads)) in
      let here = last_added (scans + 1) h d g in
      let there = subst (λ ps. AreAdded (map (λ r. read_compare (scans + 1) (route_of net h) h
      (finds chip d r)) g.reads) ps d.reads (done d g).reads) is here in
      subst (λ z. AreAdded (map (λ r. read_compare (scans + 1) (route_of net z) z (finds chip d r)) g.reads)
      (plans_places net h scans (p ∷ [])) d.reads (done d g).reads) (sym e) there
  group_added g named (p ∷ (q ∷ ps)) h scans s d t e can a =
      let plans = p ∷ (q ∷ ps) in
      let after = holds_after h plans in
      let next = write_all h p.writes in
      let x = scan_of net h (route_of net h) p in
      let y = scan_of net next (route_of net next) q in
      let ys = scans_of net (write_all next q.writes) ps in
      let all = planned net form g h plans can a in
      let (opened, o, rest) = (plans_do_groups net form g h plans can named a).planned.scans in
      let is : opened ≡ next = opened_is h opened p x can.listed.widths o refl all.scans.0.step in
      let opens = subst (λ z. IsOpening net z opened x) (sym e) o in
      let w = written_scans net g opened (y ∷ ys) after rest in
      let there =
      opened_holds log net device machines n u scans s d g x y ys opened after t can.group opens w ∙ is in
      let here =
      opened_together log net device machines n u scans s d g x y ys opened after t can.group opens w in
      let s1 = play_from chip scans (SDR x ∷ []) s in
      let later = group_added g named (q ∷ ps) next (scans + 1) s1 d here there
      (at net form g h next can all.unseen.0.listed) a.1 in
      let last = last_is log net device machines n u scans s d g x y ys opened after t can.group opens w in
      let same : group_compares chip (scans + 1) s1 d g (y ∷ ys)
      ≡ group_compares chip scans s d g (x ∷ (y ∷ ys)) =
      sym (ap (λ k. map (λ r. read_compare k (chip.path (before_last chip scans s (x ∷ (y ∷ ys))).holds)
      (before_last chip scans s (x ∷ (y ∷ ys))).holds (finds chip d r)) g.reads) (one_more scans x y ys)
      ∙ ap (λ (z : State L). map (λ r. read_compare ((scans + 1) + length (y ∷ ys))
      (chip.path z.holds) z.holds (finds chip d r)) g.reads) last) in
      let one : scans + 1 ≡ suc scans = omega arith in
      let placed : plans_places net next (scans + 1) (q ∷ ps)
      ≡ plans_places net h scans plans = ap (λ k. plans_places net next k (q ∷ ps)) one
      ∙ sym (opening_places net form g h scans p (q ∷ ps) a.0) in
      subst (λ places. AreAdded (group_compares chip scans s d g (x ∷ (y ∷ ys))) places d.reads
      (done d g).reads) placed (subst (λ cs. AreAdded cs
      (plans_places net next (scans + 1) (q ∷ ps)) d.reads (done d g).reads) same later)

  -- ---- rounds

  rounds_added : (ps : List PlannedGroup) (h : Holds) (scans : ℕ) (s : State L) (d : Direct L) → Agree s d
      → s.holds ≡ h → IsScannable net h → GroupsArePlanned net form h ps
      → AreAdded (rounds_compares chip scans s d (rounds_of net h ps)) (rounds_places net h scans ps) d.reads
      (do_rounds log net machines d (map (λ r. r.group) (rounds_of net h ps))).reads
  rounds_added [] h scans s d t e l a = added_none d.reads
  rounds_added (p ∷ ps) h scans s d t e l a =
      let g = p.group in
      let xs = scans_of net h p.plans in
      let after = holds_after h p.plans in
      let r : Round = record { group = g; scans = xs } in
      let can = can_open net form c h p l a.0 in
      let done = does net form c h p l a.0 in
      let scan = subst (λ z. ScansDo net g z xs after) (sym e) done.planned.scans in
      let plays = group_plays log net device machines n u xs scans s d g after t a.0.valid scan in
      let s1 = after_round chip scans s r in
      let d1 = means_round chip d r in
      let all = do_rounds log net machines d1 (map (λ r. r.group) (rounds_of net after ps)) in
      let first = group_added g a.0.named p.plans h scans s d t e can a.0.plans in
      let later = rounds_added ps after
      (scans + length xs) s1 d1 plays.together plays.holds done.listed a.1 in
      let moved = subst (λ k. AreAdded (rounds_compares chip (scans + length xs) s1 d1
      (rounds_of net after ps)) (rounds_places net after (scans + k) ps) d1.reads all.reads)
      (length-scans_of net h p.plans) later in
      added_both (group_compares chip scans s d g xs) (rounds_compares chip (scans + length xs) s1 d1
      (rounds_of net after ps)) (plans_places net h scans p.plans)
      (rounds_places net after (scans + length p.plans) ps) d.reads d1.reads all.reads first moved

  -- ---- all steps

  run_reads : (k : ℕ) (d : Direct L) → (run_cycles log net machines k d).reads ≡ d.reads
  run_reads zero d = refl
  run_reads (suc k) d = run_reads k _

  abbrev end : Direct L → Holds → List PlannedStep → List Read
  end d h xs = (do_all log net machines d (steps_of (script_of net h xs))).reads

  steps_added : (xs : List PlannedStep) (h : Holds) (scans : ℕ) (s : State L) (d : Direct L) → Agree s d
      → s.holds ≡ h → IsScannable net h → StepsArePlanned net form h xs → AreAdded
      (script_compares chip scans s d (script_of net h xs)) (steps_places net h scans xs) d.reads (end d h xs)
  steps_added [] h scans s d t e l a = added_none d.reads
  steps_added (Applies rounds ∷ xs) h scans s d t e l a =
      let rs = rounds_of net h rounds in
      let after = holds_after_rounds h rounds in
      let cs = rounds_commands rs in
      let does_rounds = subst (λ z. RoundsArePlanned net z rs after) (sym e)
      (rounds_planned net form c h rounds l a.1) in
      let plays = rounds_play log net device machines n u rs scans s d after t does_rounds in
      let s1 = play_from chip scans cs s in
      let d1 = means chip d (step_of (Applied rs)) in
      let ds = script_of net after xs in
      let first = rounds_added rounds h scans s d t e l a.1 in
      let later = steps_added xs after (scans + scans_in cs) s1 d1 plays.together plays.holds
      (rounds_listed net form c h rounds l a.1) a.2 in
      let moved = subst (λ k. AreAdded (script_compares chip (scans + scans_in cs) s1 d1 ds)
      (steps_places net after k xs) d1.reads (end d1 after xs)) (rounds_count net rounds h scans) later in
      added_both (rounds_compares chip scans s d rs) (script_compares chip (scans + scans_in cs) s1 d1 ds)
      (rounds_places net h scans rounds) (steps_places net after (scans_after_rounds scans rounds) xs)
      d.reads d1.reads (end d1 after xs) first moved
  steps_added (Runs k ∷ xs) h scans s d t e l a =
      let plays = ran_plays log net device machines n u some k scans s d t in
      let cs = commands_of device (Ran k) in
      let s1 = play_from chip scans cs s in
      let d1 = means chip d (step_of (Ran k)) in
      let none : scans + scans_in cs ≡ scans = omega arith in
      let later = steps_added xs h (scans + scans_in cs) s1 d1 plays.together (plays.holds ∙ e) l a.1 in
      let moved = subst (λ k. AreAdded (script_compares chip (scans + scans_in cs) s1 d1 (script_of net h xs))
      (steps_places net h k xs) d1.reads (end d1 h xs)) none later in
      subst (λ rs. AreAdded (script_compares chip (scans + scans_in cs) s1 d1 (script_of net h xs))
      (steps_places net h scans xs) rs (end d1 h xs)) (run_reads k d) moved
  steps_added (Resets ∷ xs) h scans s d t e l a =
      let plays = was_reset_plays log net device machines n u some scans s d t in
      let cs = commands_of device WasReset in
      let s1 = play_from chip scans cs s in
      let d1 = means chip d (step_of WasReset) in
      let after = reset_holds net h in
      let one : scans + scans_in cs ≡ suc scans = omega arith in
      let later = steps_added xs after (scans + scans_in cs) s1 d1 plays.together
      (plays.holds ∙ ap (reset_holds net) e) (reset_scannable net form c.lawful h l) a in
      subst (λ k. AreAdded (script_compares chip (scans + scans_in cs) s1 d1 (script_of net after xs))
      (steps_places net after k xs) d.reads (end d1 after xs)) one later

  -- from power-up, after the scan that loads the link's instruction
  pub all_added : (xs : List PlannedStep) → StepsArePlanned net form (start_holds net) xs
      → AreAdded (script_compares chip 1 (play_from chip 0 (preface_commands device) (power_up chip))
      (direct_power_up log net machines) (script_of net (start_holds net) xs)) (places net xs) []
      (end (direct_power_up log net machines) (start_holds net) xs)
  all_added xs a =
      let t = preface_together log net device machines n u some in
      let e = ap (λ (z : State L). z.holds) (preface_plays log net device machines n u some) in
      steps_added xs (start_holds net) 1 (play_from chip 0 (preface_commands device) (power_up chip))
      (direct_power_up log net machines) t e (start_scannable net form c.lawful) a
