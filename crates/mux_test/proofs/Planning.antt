-- Scans that are planned row by row are those of the test.
use Rattle.std.proofs.Common.{◌≡◌, ℕ, suc, ◌+◌, ◌<◌, ◌≤◌, Bool, true, false, List, [], ◌∷◌, ◌++◌, length}
use Rattle.std.proofs.Common.{drop, get_or, refl, sym, ap, ◌∙◌, subst, arith, length-append, append_assoc}
use Rattle.std.specs.Prelude.{All, map, IsTrue}
use Rattle.std.specs.List.{flat_map}
use Rattle.std.proofs.lemmas.List.{append-nil, drop_all, drop_more, length-map}
use Rattle.std.proofs.lemmas.List.Elements.{All-nil}
use Rattle.ij_bits.specs.Different.{AreDifferent}
use Rattle.net_graph.specs.declared.branch.Branch.{Branch}
use Rattle.net_graph.specs.declared.net.BitId.{BitId}
use Rattle.net_graph.specs.declared.net.Net.{Net}
use Rattle.net_graph.specs.declared.step.ReadBit.{ReadBit}
use Rattle.net_graph.specs.declared.step.WriteBit.{WriteBit}
use Rattle.net_graph.specs.Named.{IsBitOf}
use Rattle.net_graph.specs.Path.{is_select, select_bits}
use Rattle.net_graph.specs.Resets.{start_holds}
use Rattle.net_graph.specs.SeenSteps.{SeenGroup}
use Rattle.net_graph.specs.Signals.{Holds}
use Rattle.net_graph.specs.Writes.{write_all}
use Rattle.net_tree.specs.declared.plan.ScanPlan.{ScanPlan}
use Rattle.net_tree.specs.Form.{Items}
use Rattle.net_tree.specs.ScanPlans.{seen_plan}
use Rattle.path_planner.specs.Least.{AreOnPath}
use Rattle.path_planner.specs.Opening.{last_holds}
use Rattle.path_planner.specs.Planning.{IsBranchOf}
use Rattle.path_planner.specs.Plans.{AreScans}
use Rattle.path_planner.specs.RowScans.{AreRowPlans, CanOpenRow, RowPlanned, SettlesRow, holds_after_each}
use Rattle.path_planner.specs.RowScans.{no_plan, scans_of_row}
use Rattle.path_planner.specs.Scannable.{IsScannable}
use Rattle.path_planner.proofs.Among.{all_among, among_all}
use Rattle.path_planner.proofs.Apart.{in_part}
use Rattle.path_planner.proofs.Starting.{start_scannable}
use Rattle.path_planner.proofs.Step.{selected}
use Rattle.path_planner.proofs.Values.{select_there}
use Rattle.net_graph.specs.Groups.{registers_of}
use Rattle.scan_packer.specs.Packing.{CanScan}
use Rattle.mux_test.specs.Flushes.{row_flushes, rows_flushes, test_scans}
use Rattle.mux_test.specs.Laws.{IsTestable}
use Rattle.mux_test.specs.declared.planned.PlannedScan.{PlannedScan}
use Rattle.mux_test.specs.Planned.{AreFlushable, ArePlannedTest, AreWritable, SeenPlanned, holds_after}
use Rattle.mux_test.specs.Planned.{last_planned, planned_flushes, row_planned, seen_planned}
use Rattle.mux_test.specs.Test.{branches, scanned, tested_from}
use Rattle.mux_test.proofs.Testing.{all_branches}
use Rattle.scan_packer.proofs.Held.{plan_held}
use Rattle.path_planner.proofs.RowScans.{each_length}

-- ---- more scans after some

pub flushes-append : (net : Net) (h : Holds) (xs ys : List SeenPlanned) → planned_flushes net h (xs ++ ys)
    ≡ planned_flushes net h xs ++ planned_flushes net (last_planned h xs) ys
flushes-append net h [] ys = refl
flushes-append net h (x ∷ xs) ys =
    ap (λ fs. planned_flushes net h (x ∷ []) ++ fs) (flushes-append net (write_all h x.plan.writes) xs ys)

pub after-append : (h : Holds) (xs ys : List SeenPlanned)
    → holds_after h (xs ++ ys) ≡ holds_after h xs ++ holds_after (last_planned h xs) ys
after-append h [] ys = refl
after-append h (x ∷ xs) ys =
    ap (λ hs. write_all h x.plan.writes ∷ hs) (after-append (write_all h x.plan.writes) xs ys)

pub last-append : (h : Holds) (xs ys : List SeenPlanned)
    → last_planned h (xs ++ ys) ≡ last_planned (last_planned h xs) ys
last-append h [] ys = refl
last-append h (x ∷ xs) ys = last-append (write_all h x.plan.writes) xs ys

pub flushable-append : (net : Net) (h : Holds) (xs ys : List SeenPlanned) → AreFlushable net h xs
    → AreFlushable net (last_planned h xs) ys → AreFlushable net h (xs ++ ys)
flushable-append net h [] ys a b = b
flushable-append net h (x ∷ xs) ys a b =
    (a.0, a.1, flushable-append net (write_all h x.plan.writes) xs ys a.2 b)

pub flushable_now : (net : Net) (h : Holds) (xs : List SeenPlanned)
    → AreFlushable net h xs → IsScannable net h
flushable_now net h [] a = a
flushable_now net h (x ∷ xs) a = a.0

pub flushable_last : (net : Net) (h : Holds) (xs : List SeenPlanned)
    → AreFlushable net h xs → IsScannable net (last_planned h xs)
flushable_last net h [] a = a
flushable_last net h (x ∷ xs) a = flushable_last net (write_all h x.plan.writes) xs a.2

-- ---- the scans of one row

pub row-flushes : (net : Net) (b : Branch) (first : Bool) (h : Holds) (ps : List SeenGroup)
    → planned_flushes net h (row_planned b first ps) ≡ row_flushes net b first h (holds_after_each h ps)
row-flushes net b first h [] = refl
row-flushes net b first h (p ∷ ps) =
    ap (λ fs. planned_flushes net h (record { branch = b; first = first; plan = p } ∷ []) ++ fs)
    (row-flushes net b false (write_all h p.writes) ps)

pub row-after : (b : Branch) (first : Bool) (h : Holds) (ps : List SeenGroup)
    → holds_after h (row_planned b first ps) ≡ holds_after_each h ps
row-after b first h [] = refl
row-after b first h (p ∷ ps) =
    ap (λ hs. write_all h p.writes ∷ hs) (row-after b false (write_all h p.writes) ps)

pub row-last : (b : Branch) (first : Bool) (h : Holds) (ps : List SeenGroup)
    → last_planned h (row_planned b first ps) ≡ last_holds h (holds_after_each h ps)
row-last b first h [] = refl
row-last b first h (p ∷ ps) = row-last b false (write_all h p.writes) ps

pub row-length : (b : Branch) (first : Bool) (ps : List SeenGroup)
    → length (row_planned b first ps) ≡ length ps
row-length b first [] = refl
row-length b first (p ∷ ps) = ap suc (row-length b false ps)

after-length : (h : Holds) (xs : List SeenPlanned) → length (holds_after h xs) ≡ length xs
after-length h [] = refl
after-length h (x ∷ xs) = ap suc (after-length (write_all h x.plan.writes) xs)

-- a planned test has as many scans as the test
pub as_long : (net : Net) (form : Items) (scans : List PlannedScan)
    → ArePlannedTest net form (map seen_planned scans) → length scans ≡ length (scanned net form)
as_long net form scans p =
    sym (length-map scans seen_planned)
    ∙ sym (after-length (start_holds net) (map seen_planned scans)) ∙ ap length p.after

pub row_writable : (net : Net) (b : Branch) (first : Bool) (h : Holds) (ps : List SeenGroup)
    → AreFlushable net h (row_planned b first ps) → AreWritable h ps
row_writable net b first h [] a = tt
row_writable net b first h (p ∷ ps) a =
    (plan_held net h p a.1, row_writable net b false (write_all h p.writes) ps a.2)

module _ (net : Net) (form : Items) (b : Branch) where
  module _ (h : Holds) (c : CanOpenRow net form b h) where
    select_bit : (x : BitId) → is_select net x ≡ true → IsBitOf net x
    select_bit x t =
        let (m, l, a) = in_part (λ mux. mux.select.items) x net.muxes.items
        (selected x (select_bits net) t) in
        select_there net m x c.well_formed l a

    -- a scan that settles the row
    settling_scan : (p : SeenGroup) → SettlesRow net form b h p
        → AreOnPath net (registers_of p) h → CanScan net h p
    settling_scan p s (path, e, on) = (
      path,
      e,
      record {
        widths = c.listed.widths;
        writes = all_among (λ (w : WriteBit). IsBitOf net w.bit) p.writes
            (λ w i. select_bit w.bit (among_all (λ w. IsTrue (is_select net w.bit)) w p.writes s.selects i));
        reads = subst (All (λ (r : ReadBit). IsBitOf net r.bit)) (sym s.reads_nothing)
            (All-nil (λ (r : ReadBit). IsBitOf net r.bit));
        written_once = s.once;
        read_once = subst (λ (rs : List ReadBit). AreDifferent (map (λ r. r.bit) rs))
            (sym s.reads_nothing) tt;
        on_path = on;
      },
    )

    -- one that changes nothing
    empty_scan : AreOnPath net (registers_of no_plan) h → CanScan net h no_plan
    empty_scan (path, e, on) = (
      path,
      e,
      record {
        widths = c.listed.widths;
        writes = All-nil (λ (w : WriteBit). IsBitOf net w.bit);
        reads =
            All-nil (λ (r : ReadBit). IsBitOf net r.bit);
        written_once = tt;
        read_once = tt;
        on_path = on;
      },
    )

  pub row_flushable : (first : Bool) (h : Holds) (ps : List SeenGroup) → CanOpenRow net form b h
      → AreRowPlans net form b h ps → AreScans net h ps → AreFlushable net h (row_planned b first ps)
  row_flushable first h [] c a s = absurd a
  row_flushable first h (p ∷ []) c a s = (
    s.0.scannable,
    subst (CanScan net h) (sym a.0)
        (empty_scan h c (subst (λ z. AreOnPath net (registers_of z) h) a.0 s.0.named)),
    s.1,
  )
  row_flushable first h (p ∷ (q ∷ ps)) c a s = (
    s.0.scannable,
    settling_scan h c p a.0 s.0.named,
    row_flushable false (write_all h p.writes) (q ∷ ps) (record {
      well_formed = c.well_formed;
      describes = c.describes;
      lawful = c.lawful;
      there = c.there;
      listed = s.1.0.scannable;
    }) a.1 s.1,
  )

-- ---- the scans so far, and the rows that are left

pub record IsOnTheWay (net : Net) (form : Items) (scans : List SeenPlanned)
    (holds : Holds) (left : List Branch) : Type 0 where
  pub now : holds ≡ last_planned (start_holds net) scans
  pub flushes : planned_flushes net (start_holds net) scans
      ++ rows_flushes net holds (tested_from net form holds left) ≡ test_scans net form
  pub after : holds_after (start_holds net) scans
      ++ flat_map (λ t. t.after) (tested_from net form holds left) ≡ scanned net form
  pub can : AreFlushable net (start_holds net) scans

module _ (net : Net) (form : Items) where
  pub at_start : (holds : Holds) → holds ≡ start_holds net → IsScannable net (start_holds net)
      → IsOnTheWay net form [] holds (branches net)
  at_start holds e s = record {
    now = e;
    flushes = ap (λ h. rows_flushes net h (tested_from net form h (branches net))) e;
    after = ap (λ h. flat_map (λ t. t.after) (tested_from net form h (branches net))) e;
    can = s;
  }

  pub at_end : (scans : List SeenPlanned) (holds : Holds)
      → IsOnTheWay net form scans holds [] → ArePlannedTest net form scans
  at_end scans holds w = record {
    flushes = sym (append-nil (planned_flushes net (start_holds net) scans)) ∙ w.flushes;
    after = sym (append-nil (holds_after (start_holds net) scans)) ∙ w.after;
    can = w.can;
  }

  -- no row is left
  pub done : (scans : List SeenPlanned) (holds : Holds) (bs : List Branch) (i : ℕ) → length bs ≤ i
      → IsOnTheWay net form scans holds (drop i bs) → IsOnTheWay net form scans holds []
  done scans holds bs i l w = subst (IsOnTheWay net form scans holds) (drop_all i bs l) w

  module _ (scans : List SeenPlanned) (holds : Holds) (b : Branch) (bs : List Branch) (ps : List SeenGroup)
      (w : IsOnTheWay net form scans holds (b ∷ bs)) (p : RowPlanned net form b holds ps) where
    -- the test has these scans, too
    pub as_many : length scans + length ps ≤ length (scanned net form)
    as_many =
        let hs = scans_of_row net form b holds in
        let rest = flat_map (λ t. t.after) (tested_from net form (last_holds holds hs) bs) in
        let all : length (holds_after (start_holds net) scans) + length (hs ++ rest)
        ≡ length (scanned net form) =
        sym (length-append (holds_after (start_holds net) scans) (hs ++ rest)) ∙ ap length w.after in
        omega (
          arith,
          all,
          length-append hs rest,
          ap length p.lead,
          each_length holds ps,
          after-length (start_holds net) scans,
        )

    -- with the plans of the next row
    pub go_on : (more : List SeenPlanned) (next : Holds) → more ≡ scans ++ row_planned b true ps
        → next ≡ last_holds holds (holds_after_each holds ps)
        → AreFlushable net holds (row_planned b true ps) → IsOnTheWay net form more next bs
    go_on more next m n f =
        let start = start_holds net in
        let hs = scans_of_row net form b holds in
        let row = row_planned b true ps in
        let rest = tested_from net form (last_holds holds hs) bs in
        let lead : next ≡ last_holds holds hs = n ∙ ap (last_holds holds) p.lead in
        let moved : last_planned start scans ≡ holds = sym w.now in
        record {
          now = n ∙ sym (row-last b true holds ps) ∙ ap (λ h. last_planned h row) w.now
              ∙ sym (last-append start scans row) ∙ ap (last_planned start) (sym m);
          flushes =
              ap (λ xs. planned_flushes net start xs
              ++ rows_flushes net next (tested_from net form next bs)) m
              ∙ ap (λ h. planned_flushes net start (scans ++ row)
              ++ rows_flushes net h (tested_from net form h bs)) lead
              ∙ ap (λ fs. fs ++ rows_flushes net (last_holds holds hs) rest)
              (flushes-append net start scans row ∙ ap (λ h. planned_flushes net start scans
              ++ planned_flushes net h row) moved ∙ ap (λ fs. planned_flushes net start scans ++ fs)
              (row-flushes net b true holds ps ∙ ap (row_flushes net b true holds) p.lead))
              ∙ append_assoc (planned_flushes net start scans) (row_flushes net b true holds hs)
              (rows_flushes net (last_holds holds hs) rest)
              ∙ w.flushes;
          after =
              ap (λ xs. holds_after start xs ++ flat_map (λ t. t.after) (tested_from net form next bs)) m
              ∙ ap (λ h. holds_after start (scans ++ row)
              ++ flat_map (λ t. t.after) (tested_from net form h bs)) lead
              ∙ ap (λ fs. fs ++ flat_map (λ t. t.after) rest)
              (after-append start scans row ∙ ap (λ h. holds_after start scans ++ holds_after h row) moved
              ∙ ap (λ fs. holds_after start scans ++ fs) (row-after b true holds ps ∙ p.lead))
              ∙ append_assoc (holds_after start scans) hs (flat_map (λ t. t.after) rest)
              ∙ w.after;
          can = subst (AreFlushable net start) (sym m)
              (flushable-append net start scans row w.can (subst (λ h. AreFlushable net h row) w.now f));
        }

-- ---- one row after the other, as a loop plans them

module _ (net : Net) (form : Items) (t : IsTestable net form) where
  pub can_start : IsScannable net (start_holds net)
  can_start = start_scannable net form t.lawful

  module _ (scans : List PlannedScan) (holds : Holds) (bs : List Branch) (i : ℕ) (d : Branch)
      (all : bs ≡ branches net) (l : i < length bs)
      (w : IsOnTheWay net form (map seen_planned scans) holds (drop i bs)) where
    next_way : IsOnTheWay net form (map seen_planned scans) holds (get_or bs i d ∷ drop (i + 1) bs)
    next_way = subst (IsOnTheWay net form (map seen_planned scans) holds) (drop_more bs i d l) w

    pub can_open : CanOpenRow net form (get_or bs i d) holds
    can_open = record {
      well_formed = t.well_formed;
      describes = t.describes;
      lawful = t.lawful;
      there = subst (All (IsBranchOf net)) (sym all) (all_branches net form t) i d l;
      listed = subst (IsScannable net) (sym w.now)
          (flushable_last net (start_holds net) (map seen_planned scans) w.can);
    }

    module _ (plans : List ScanPlan) (are : AreRowPlans net form (get_or bs i d) holds (map seen_plan plans))
        (p : RowPlanned net form (get_or bs i d) holds (map seen_plan plans)) where
      can_flush : AreFlushable net holds (row_planned (get_or bs i d) true (map seen_plan plans))
      can_flush = row_flushable net form (get_or bs i d) true holds (map seen_plan plans) can_open are p.scans

      pub can_write : AreWritable holds (map seen_plan plans)
      can_write = row_writable net (get_or bs i d) true holds (map seen_plan plans) can_flush

      pub test_has : length scans + length plans ≤ length (scanned net form)
      test_has =
          let many = as_many net form (map seen_planned scans) holds (get_or bs i d)
          (drop (i + 1) bs) (map seen_plan plans) next_way p in
          omega (arith, many, length-map scans seen_planned, length-map plans seen_plan)

      module _ (more : List PlannedScan) (next : Holds) (m : map seen_planned more
          ≡ map seen_planned scans ++ row_planned (get_or bs i d) true (map seen_plan plans))
          (n : next ≡ last_holds holds (holds_after_each holds (map seen_plan plans))) where
        pub next_row : IsOnTheWay net form (map seen_planned more) next (drop (i + 1) bs)
        next_row =
            go_on net form (map seen_planned scans) holds (get_or bs i d) (drop (i + 1) bs)
            (map seen_plan plans) next_way p (map seen_planned more) next m n can_flush

        pub next_length : length more ≡ length scans + length plans
        next_length =
            omega (
              arith,
              length-map more seen_planned,
              length-map scans seen_planned,
              length-map plans seen_plan,
              ap length m,
              length-append (map seen_planned scans)
                  (row_planned (get_or bs i d) true (map seen_plan plans)),
              row-length (get_or bs i d) true (map seen_plan plans),
            )
