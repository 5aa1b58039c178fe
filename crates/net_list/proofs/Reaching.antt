-- The rows around a register are settled in the fewest scans that reach it.
use Rattle.std.proofs.Common.{◌≡◌, ◌⊎◌, inl, inr, ⊎_elim, ℕ, zero, suc, ◌+◌, ◌<◌, ◌≤◌, true, false, List, []}
use Rattle.std.proofs.Common.{◌∷◌, ◌++◌, length, Option, refl, sym, ap, ◌∙◌, subst, arith, length-append}
use Rattle.std.specs.Prelude.{All, Contains, unwrap_or, get_or, map}
use Rattle.std.proofs.lemmas.Bool.{true≢false, cases_Bool}
use Rattle.std.proofs.lemmas.List.Elements.{All-cons}
use Rattle.net_graph.specs.declared.branch.Branch.{Branch}
use Rattle.net_graph.specs.declared.net.Net.{Net}
use Rattle.net_graph.specs.declared.net.Point.TheVariants.{Reg as FromReg, Mux as FromMux}
use Rattle.net_graph.specs.Groups.{IsEmpty}
use Rattle.net_graph.specs.Nets.{IsNet}
use Rattle.net_graph.specs.Path.{route_of, is_in}
use Rattle.net_graph.specs.Resets.{start_holds}
use Rattle.net_graph.specs.Signals.{Holds}
use Rattle.net_tree.specs.Form.{Items, Nothing, RegThen, MuxThen, Rows, NoRow, RowThen, Describes}
use Rattle.net_tree.specs.Lawful.{IsLawful}
use Rattle.net_tree.specs.Places.{Placed, placed, placed_rows, place_of}
use Rattle.path_planner.specs.Least.{AreOnPath, Reaches, IsLeast}
use Rattle.path_planner.specs.Opening.{AreUnseen, last_holds}
use Rattle.path_planner.specs.Planning.{IsBranchOf}
use Rattle.path_planner.specs.Rows.{row_needs, all_in, BringsIn}
use Rattle.path_planner.specs.RowScans.{row_scans, scans_of_row, holds_after_each, CanOpenRow, RowPlanned}
use Rattle.net_graph.specs.SeenSteps.{SeenGroup}
use Rattle.net_graph.specs.Writes.{write_all}
use Rattle.net_tree.specs.declared.plan.ScanPlan.{ScanPlan}
use Rattle.net_tree.specs.ScanPlans.{seen_plan}
use Rattle.std.proofs.lemmas.List.{length-map}
use Rattle.path_planner.specs.Scannable.{IsScannable}
use Rattle.path_planner.specs.Settling.{is_in_row}
use Rattle.path_planner.proofs.Depth.{inner}
use Rattle.path_planner.proofs.Among.{Among, among-left, among-right, among-cases, all_among, among_contains}
use Rattle.path_planner.proofs.Among.{contains_among, true_on, true_all, all_true}
use Rattle.path_planner.proofs.Inside.{around, reg_item, mux_place, path_open, open_path}
use Rattle.path_planner.proofs.Opening.{IsPlaced, IsAfter, after_itself, after_next, next_listed}
use Rattle.path_planner.proofs.Places.{one_branch, AreIn}
use Rattle.path_planner.proofs.RowOpening.{needed, opens_row}
use Rattle.path_planner.proofs.RowScans.{brought, scans_are, unseen_listed, each_length}
use Rattle.path_planner.proofs.Rows.{in_row, row_in}
use Rattle.path_planner.proofs.Starting.{start_scannable}
use Rattle.path_planner.proofs.Step.{IsNeeded, has_path}
use Rattle.net_list.specs.declared.format.ListFormat.{ListFormat}
use Rattle.net_list.specs.Fewest.{fewest_scans, names, ScansAreFewest}
use Rattle.net_list.specs.Lines.{register_text, register_line}

-- ---- the innermost row of a place

-- the place of a register is empty, or what a row needs
module _ (net : Net) (form : Items) (d : Describes net form) where
  pub record IsOfRow (place : List Branch) : Type 0 where
    pub row : Branch
    pub there : IsBranchOf net row
    pub needs : place ≡ row_needs form row

  pub row_around : (r : ℕ) → r < length net.regs.items
      → (place_of form (FromReg r) ≡ []) ⊎ IsOfRow (place_of form (FromReg r))
  row_around r l =
      let (x, a, i, p) = reg_item net form d r l in
      ⊎_elim (λ e. inl (sym p ∙ e)) (λ (y, m, q, b, j, e).
      let place : place_of form (FromReg r) ≡ place_of form (FromMux m) ++ one_branch m q =
      sym p ∙ e ∙ ap (λ z. z ++ one_branch m q) (sym (mux_place net form d y m b j)) in
      let last : Among (record { mux = m; row = q }) (place_of form (FromReg r)) =
      subst (Among (record { mux = m; row = q })) (sym place) (among-right (record { mux = m; row = q })
      (place_of form (FromMux m)) (one_branch m q) (inl refl)) in
      let it = around net form d (FromReg r) (place_of form (FromReg r))
      (record { mux = m; row = q }) (x, a, i, p) last in
      inr (record {
        row = record { mux = m; row = q };
        there = record { mux = it.there; row = it.row };
        needs = place;
      }))
      (inner form [] x a)

-- ---- scans that reach one register

module _ (net : Net) (form : Items) (n : IsNet net) (d : Describes net form) (w : IsLawful net form)
    (r : ℕ) (l : r < length net.regs.items) where
  abbrev bs : List Branch
  bs = place_of form (FromReg r)

  none_needed : bs ≡ [] → IsNeeded net form bs
  none_needed e =
      let no : (b : Branch) → Among b bs → ⊥ = λ b a. subst (Among b) e a in
      record {
        muxes = λ b a. absurd (no b a);
        rows = λ b a. absurd (no b a);
        outer = λ b c a i. absurd (no b a);
        single = λ b c a i f. absurd (no b a);
      }

  pub is_needed : IsNeeded net form bs
  is_needed =
      ⊎_elim none_needed (λ o. subst (IsNeeded net form) (sym o.needs) (needed net form o.row n d w o.there))
      (row_around net form d r l)

  placed_so : IsPlaced net form n d w bs is_needed r
  placed_so = record { there = l; needed = λ c a. a }

  -- the register is on the path just where the rows around it are selected
  on_in : (h : Holds) → IsScannable net h → is_in (route_of net h) r ≡ true → all_in net bs h ≡ true
  on_in h s t =
      let (path, e) = has_path net form n d w h s in
      let on = true_on r path (ap (λ (o : Option (List ℕ)). is_in (unwrap_or o []) r) (sym e) ∙ t) in
      let around_it = path_open net form d h path r e on in
      all_true (is_in_row net h) bs (λ c a. row_in net h c (around_it c a))

  in_on : (h : Holds) → IsScannable net h → all_in net bs h ≡ true → AreOnPath net (r ∷ []) h
  in_on h s t =
      let (path, e) = has_path net form n d w h s in
      let all_here : AreIn net h bs = λ c a. in_row net h c (true_all (is_in_row net h) bs t c a) in
      let on = open_path net form d h path r e l all_here in (
        path,
        e,
        All-cons (Contains path) r [] (among_contains r path on)
            (λ k x below. absurd (omega (arith, below))),
      )

  off_now : (h : Holds) → IsScannable net h → all_in net bs h ≡ false → is_in (route_of net h) r ≡ false
  off_now h s f =
      ⊎_elim (λ t. absurd (true≢false (sym (on_in h s t) ∙ f)))
      (λ z. z) (cases_Bool (is_in (route_of net h) r))

  abbrev After : Holds → Holds → Type 0
  After f h = IsAfter net form n d w bs is_needed f h

  none_sooner : (f h : Holds) (hs : List Holds) (k : ℕ) → After f h → IsScannable net h → BringsIn net bs h hs
      → k < length hs → Reaches net (r ∷ []) f k → ⊥
  none_sooner f h [] k b s o below x = absurd (omega (arith, below))
  none_sooner f h (h1 ∷ hs) zero b s o below (path, e, all) =
      b.off r placed_so (off_now h s o.0) path e (contains_among r path (all 0 0 (omega arith)))
  none_sooner f h (h1 ∷ hs) (suc k) b s o below (f1, step, x) =
      let e = o.1 in
      none_sooner f1 h1 hs k (subst (After f1) (sym e)
      (after_next net form n d w bs is_needed f f1 h s step b)) (subst (IsScannable net) (sym e)
      (next_listed net form n d w bs is_needed h s)) o.2 (omega (arith, below)) x

  reaches : (h : Holds) (hs : List Holds) → AreUnseen net h hs
      → AreOnPath net (r ∷ []) (last_holds h hs) → Reaches net (r ∷ []) h (length hs)
  reaches h [] u x = x
  reaches h (h1 ∷ hs) u x = (h1, u.0.scan, reaches h1 hs u.1 x)

  -- the scans that settle what it needs
  record Settled (h : Holds) : Type 0 where
    pub hs : List Holds
    pub brings : BringsIn net bs h hs
    pub short : length hs ≤ length bs
    pub unseen : AreUnseen net h hs

  settled_none : (h : Holds) → bs ≡ [] → Settled h
  settled_none h e =
      record { hs = []; brings = ap (λ z. all_in net z h) e; short = omega arith; unseen = tt }

  settled_row : (h : Holds) → IsScannable net h → IsOfRow net form d bs → Settled h
  settled_row h s o =
      let (hs, x) = opens_row net form o.row n d w o.there h s in
      let deep : length bs ≡ length (place_of form (FromMux o.row.mux)) + 1 =
      ap length o.needs ∙ length-append (place_of form (FromMux o.row.mux)) (o.row ∷ []) in
      record {
        hs = hs;
        brings = subst (λ z. BringsIn net z h hs) (sym o.needs) x.brings;
        short = omega (arith, deep, x.short);
        unseen = x.unseen;
      }

  settled : (h : Holds) → IsScannable net h → Settled h
  settled h s = ⊎_elim (settled_none h) (settled_row h s) (row_around net form d r l)

  pub fewest : IsLeast net (names r) (start_holds net) (fewest_scans net form r)
  fewest =
      let h = start_holds net in
      let s = start_scannable net form w in
      let x = settled h s in
      let listed = unseen_listed net h x.hs s x.unseen in
      let last = in_on (last_holds h x.hs) listed (brought net bs h x.hs x.brings) in
      let count : length (row_scans net bs (length bs) h)
      ≡ suc (length x.hs) = ap length (scans_are net bs h x.hs (length bs) x.brings x.short)
      ∙ length-append x.hs (last_holds h x.hs ∷ []) ∙ more (length x.hs) in
      subst (IsLeast net (names r) h) (sym count) (
        some,
        reaches h x.hs x.unseen last,
        λ k below reached.
            none_sooner h h x.hs k (after_itself net form n d w bs is_needed h) s x.brings below reached,
      )
    where
      more : (k : ℕ) → k + 1 ≡ suc k
      more k = omega arith

      some : ¬ IsEmpty (names r)
      some (e, f) = absurd cc

pub scans_are_fewest : ScansAreFewest
scans_are_fewest net form r n d w l = fewest net form n d w r l

-- ---- the plans of the row that a register is in

last_is : (xs : List Branch) (x d : Branch) (k : ℕ) → k ≡ length xs → get_or (xs ++ x ∷ []) k d ≡ x
last_is [] x d k e = ap (λ (n : ℕ). get_or (x ∷ []) n d) e
last_is (y ∷ xs) x d zero e = absurd (omega (arith, e))
last_is (y ∷ xs) x d (suc k) e = last_is xs x d k (omega (arith, e))

-- the innermost row of a register
pub record IsInnermost (net : Net) (form : Items) (r : ℕ) (row : Branch) : Type 0 where
  pub there : IsBranchOf net row
  pub needs : place_of form (FromReg r) ≡ row_needs form row

pub innermost : (net : Net) (form : Items) (r : ℕ) (row : Branch) (place : List Branch) (k : ℕ)
    → Describes net form → r < length net.regs.items → place ≡ place_of form (FromReg r)
    → suc k ≡ length place → row ≡ get_or place k row → IsInnermost net form r row
innermost net form r row place k d l is count last =
    ⊎_elim (λ e. absurd (omega (arith, count, ap length is, ap length e))) found (row_around net form d r l)
  where
    found : IsOfRow net form d (place_of form (FromReg r)) → IsInnermost net form r row
    found o =
        let cut : place ≡ place_of form (FromMux o.row.mux) ++ o.row ∷ [] = is ∙ o.needs in
        let at : k ≡ length (place_of form (FromMux o.row.mux)) = omega
        (arith, count, ap length cut, length-append (place_of form (FromMux o.row.mux)) (o.row ∷ [])) in
        let same : o.row ≡ row = sym (last ∙ ap (λ (xs : List Branch). get_or xs k row) cut
        ∙ last_is (place_of form (FromMux o.row.mux)) o.row row k at) in
        subst (IsInnermost net form r) same (record { there = o.there; needs = o.needs })

pub can_plan : (net : Net) (form : Items) (r : ℕ) (row : Branch) (h : Holds) → IsNet net → Describes net form
    → IsLawful net form → h ≡ start_holds net → IsInnermost net form r row → CanOpenRow net form row h
can_plan net form r row h n d w start i =
    record {
      well_formed = n;
      describes = d;
      lawful = w;
      there = i.there;
      listed = subst (IsScannable net) (sym start) (start_scannable net form w);
    }

-- this many plans has that row
pub planned_scans : (net : Net) (form : Items) (r : ℕ) (row : Branch) (h : Holds) (plans : List ScanPlan)
    → h ≡ start_holds net → IsInnermost net form r row → RowPlanned net form row h (map seen_plan plans)
    → length plans ≡ fewest_scans net form r
planned_scans net form r row h plans start i p =
    sym (length-map plans seen_plan)
    ∙ sym (each_length h (map seen_plan plans))
    ∙ ap length p.lead
    ∙ ap (λ (x : Holds). length (scans_of_row net form row x)) start
    ∙ ap (λ (bs : List Branch). length (row_scans net bs (length bs) (start_holds net))) (sym i.needs)

-- the rows around a register are rows of the network
pub place_there : (net : Net) (form : Items) (r : ℕ) (place : List Branch) → Describes net form
    → r < length net.regs.items → place ≡ place_of form (FromReg r) → All (IsBranchOf net) place
place_there net form r place d l is =
    subst (All (IsBranchOf net)) (sym is) (all_among (IsBranchOf net) (place_of form (FromReg r)) (λ b a.
    let x = around net form d (FromReg r) (place_of form (FromReg r)) b (reg_item net form d r l) a in
    record { mux = x.there; row = x.row }))

pub line_is : (f : ListFormat) (net : Net) (form : Items) (r : ℕ) (place : List Branch) (scans : ℕ)
    → place ≡ place_of form (FromReg r) → scans ≡ fewest_scans net form r
    → register_text f net r place scans ≡ register_line f net form r
line_is f net form r place scans p s =
    ap (λ (bs : List Branch). register_text f net r bs scans) p
    ∙ ap (register_text f net r (place_of form (FromReg r))) s
