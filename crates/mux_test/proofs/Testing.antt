-- The whole test: its scans can be done one after the other, and each goes through a path that isn't empty.
use Rattle.std.proofs.Common.{◌≡◌, inl, ⊎_elim, ℕ, zero, suc, ◌+◌, ◌<◌, ◌≤◌, List, [], ◌∷◌, ◌++◌, length}
use Rattle.std.proofs.Common.{get_or, refl, sym, ap, ◌∙◌, subst, arith, length-append, append_assoc}
use Rattle.std.specs.Prelude.{map, take, All, Contains, unwrap_or}
use Rattle.std.specs.List.{flat_map}
use Rattle.std.proofs.Math.Seq.{get_or-append_seam}
use Rattle.std.proofs.lemmas.List.{get_or-map}
use Rattle.std.proofs.lemmas.List.Elements.{All-nil, All-cons, All-append, All-head, All-tail}
use Rattle.net_graph.specs.Chain.{chain}
use Rattle.net_graph.specs.declared.branch.Branch.{Branch}
use Rattle.net_graph.specs.declared.net.BitId.{BitId}
use Rattle.net_graph.specs.declared.net.Mux.{Mux}
use Rattle.net_graph.specs.declared.net.Net.{Net}
use Rattle.net_graph.specs.declared.net.Point.TheVariants.{Reg as FromReg, Mux as FromMux}
use Rattle.net_graph.specs.declared.net.Row.{Row}
use Rattle.net_graph.specs.Nets.{IsMux}
use Rattle.net_graph.specs.MuxesMet.{active_muxes}
use Rattle.net_graph.specs.Path.{route_of, row_of, rows_of}
use Rattle.net_graph.specs.Signals.{Holds, bits_at}
use Rattle.net_graph.proofs.Shapes.{length_at}
use Rattle.net_tree.specs.Form.{Items}
use Rattle.net_tree.specs.Lawful.{IsOutside, selects_of}
use Rattle.net_tree.specs.Places.{place_of}
use Rattle.path_planner.specs.Opening.{AreUnseen, last_holds}
use Rattle.path_planner.specs.Planning.{IsBranchOf}
use Rattle.path_planner.specs.RowScans.{scans_of_row}
use Rattle.path_planner.specs.Scannable.{IsScannable}
use Rattle.path_planner.proofs.Among.{Among, among_all}
use Rattle.path_planner.proofs.Inside.{around, mux_item, open_path}
use Rattle.path_planner.proofs.Places.{AreIn}
use Rattle.path_planner.proofs.RowScans.{last-both, rows_are_scanned, unseen-both}
use Rattle.path_planner.proofs.Step.{has_path, select_reg}
use Rattle.mux_test.specs.Test.{branches, branches_from, row_branches, tested_from}
use Rattle.mux_test.specs.Laws.{AreReached, IsTestable}
use Rattle.net_bench.proofs.Wide.{wide_at}

-- ---- a path isn't empty where there is a mux: the select bits of one that is in no row are on it

some_select : (net : Net) (muxes : List Mux) (m : ℕ) → All (IsMux net) muxes → m < length muxes
    → 1 ≤ length (get_or (map (λ mux. mux.select.items) muxes) m [])
some_select net [] m a l = absurd (omega (arith, l))
some_select net (x ∷ xs) zero a l = (All-head (IsMux net) x xs a).at_least_one_bit
some_select net (x ∷ xs) (suc m) a l = some_select net xs m (All-tail (IsMux net) x xs a) (omega (arith, l))

first_select : (xs : List BitId) → 1 ≤ length xs → (s : BitId) × Among s xs
first_select [] h = absurd (omega (arith, h))
first_select (x ∷ xs) h = (x, inl refl)

long_enough : (path : List ℕ) (h : Holds) (r : ℕ) → Among r path
    → 1 ≤ length (bits_at h r) → 0 < length (chain path h)
long_enough [] h r a l = absurd a
long_enough (x ∷ xs) h r a l =
    ⊎_elim (λ e. let z : length (bits_at h r) ≡ length (bits_at h x) = ap (λ k. length (bits_at h k))
    (same x r e) in omega (arith, length-append (bits_at h x) (chain xs h), l, z))
    (λ i. omega (arith, length-append (bits_at h x) (chain xs h), long_enough xs h r i l)) a
  where
    same : (x r : ℕ) → x ≡ r → r ≡ x
    same x r e = sym e

none_in : (bs : List Branch) → length bs ≤ 0 → bs ≡ []
none_in [] h = refl
none_in (b ∷ bs) h = absurd (omega (arith, h))

take_none : (n : ℕ) → take {A = Branch} n [] ≡ []
take_none zero = refl
take_none (suc n) = refl

module _ (net : Net) (form : Items) (t : IsTestable net form) where
  -- a register outside all muxes
  abbrev Outer : Type 0
  Outer = (r : ℕ) × (r < length net.regs.items) × (place_of form (FromReg r) ≡ [])

  -- the register of a select bit of a mux that is in no row
  free_select : (m : ℕ) → m < length net.muxes.items → place_of form (FromMux m) ≡ [] → Outer
  free_select m l e =
      let (s, a) = first_select (selects_of net m)
      (some_select net net.muxes.items m t.well_formed.muxes l) in
      let p = among_all (IsOutside form m) s (selects_of net m) (t.lawful m l).outside a in (
        s.reg,
        select_reg net form t.well_formed t.describes t.lawful m s l a,
        p ∙ ap (take
            (length (place_of form (FromReg s.reg)))) e ∙ take_none (length (place_of form (FromReg s.reg))),
      )

  outer : (n m : ℕ) → m < length net.muxes.items → length (place_of form (FromMux m)) ≤ n → Outer
  outer zero m l h = free_select m l (none_in (place_of form (FromMux m)) h)
  outer (suc n) m l h = by (place_of form (FromMux m)) refl (λ k below fewer. outer n k below fewer)
    where
      by : (place : List Branch) → place_of form (FromMux m) ≡ place
          → ((k : ℕ) → k < length net.muxes.items → length (place_of form (FromMux k)) ≤ n → Outer) → Outer
      by [] e more = free_select m l e
      by (c ∷ cs) e more =
          let x = around net form t.describes (FromMux m) (place_of form (FromMux m)) c
          (mux_item net form t.describes m l) (subst (Among c) (sym e) (inl refl)) in
          more c.mux x.there (omega (
            arith,
            h,
            ap length x.place_is,
            length-append (place_of form (FromMux c.mux)) (c ∷ x.rest),
          ))

  pub not_empty : 0 < length net.muxes.items → (h : Holds)
      → IsScannable net h → 0 < length (chain (route_of net h) h)
  not_empty some h s =
      let (r, there, free) = outer (length (place_of form (FromMux 0))) 0 some (omega arith) in
      let (path, traced) = has_path net form t.well_formed t.describes t.lawful h s in
      let before : AreIn net h (place_of form (FromReg r)) =
      subst (AreIn net h) (sym free) (λ b a. absurd a) in
      let on = open_path net form t.describes h path r traced there before in
      let width : length (bits_at h r) ≡ get_or (map (λ reg. reg.width) net.regs.items) r 0 =
      length_at h r ∙ ap (λ ws. get_or ws r 0) s.widths in
      let wide = wide_at net net.regs.items r t.well_formed.regs there in
      subst (λ p. 0 < length (chain p h)) (ap (λ o. unwrap_or o []) (sym traced))
      (long_enough path h r on (omega (arith, width, wide)))

  -- ---- the branches are rows of muxes

  rows_there : (m q : ℕ) (rs : List Row) → m < length net.muxes.items → q + length rs ≡ length (rows_of net m)
      → All (IsBranchOf net) (row_branches m q rs)
  rows_there m q [] l e = All-nil (IsBranchOf net)
  rows_there m q (r ∷ rs) l e =
      All-cons (IsBranchOf net) (record { mux = m; row = q }) (row_branches m (suc q) rs)
      (record { mux = l; row = omega (arith, e) }) (rows_there m (suc q) rs l (omega (arith, e)))

  branches_there : (front xs : List Mux) (m : ℕ) → front ++ xs ≡ net.muxes.items → m ≡ length front
      → All (IsBranchOf net) (branches_from m xs)
  branches_there front [] m e k = All-nil (IsBranchOf net)
  branches_there front (x ∷ xs) m e k =
      let many : length net.muxes.items ≡ length front + length (x ∷ xs) =
      ap length (sym e) ∙ length-append front (x ∷ xs) in
      let below : m < length net.muxes.items = omega (arith, many, k) in
      let rows : rows_of net m ≡ x.rows.items =
      get_or-map (λ mux. mux.rows.items) net.muxes.items m x [] below ∙ ap
      (λ l. (get_or l m x).rows.items) (sym e) ∙ ap (λ i. (get_or (front ++ x ∷ xs) i x).rows.items) k
      ∙ ap (λ (y : Mux). y.rows.items) (get_or-append_seam front x xs x) in
      let more : suc m ≡ length (front ++ x ∷ []) = omega (arith, length-append front (x ∷ []), k) in
      All-append (IsBranchOf net) (row_branches m 0 x.rows.items) (branches_from (suc m) xs)
      (rows_there m 0 x.rows.items below (omega (arith, ap length rows)))
      (branches_there (front ++ x ∷ []) xs (suc m) (append_assoc front (x ∷ []) xs ∙ e) more)

  pub all_branches : All (IsBranchOf net) (branches net)
  all_branches = branches_there [] net.muxes.items 0 refl refl

  -- ---- the scans

  pub test_unseen : (bs : List Branch) (h : Holds) → All (IsBranchOf net) bs → IsScannable net h
      → AreUnseen net h (flat_map (λ t. t.after) (tested_from net form h bs))
  test_unseen [] h a s = tt
  test_unseen (b ∷ bs) h a s =
      let o = rows_are_scanned net form b h t.well_formed t.describes t.lawful
      (All-head (IsBranchOf net) b bs a) s in
      let hs = scans_of_row net form b h in
      unseen-both net h hs (flat_map (λ t. t.after) (tested_from net form (last_holds h hs) bs)) o.unseen
      (test_unseen bs (last_holds h hs) (All-tail (IsBranchOf net) b bs a) o.listed)

  -- ---- and each row is gone through

  pub test_reached : (bs : List Branch) (h : Holds) → All (IsBranchOf net) bs → IsScannable net h
      → AreReached net form h (tested_from net form h bs)
  test_reached [] h a s = tt
  test_reached (b ∷ bs) h a s =
      let o = rows_are_scanned net form b h t.well_formed t.describes t.lawful
      (All-head (IsBranchOf net) b bs a) s in
      let hs = scans_of_row net form b h in
      let front = o.last_stays.0 in
      let last = last_holds h front in
      let ends : last_holds h hs ≡ last = ap (last_holds h) o.last_stays.1
      ∙ last-both h front (last ∷ []) in (
        record {
          few = o.few;
          front = front;
          last_stays = o.last_stays.1;
          on_path = subst (λ k. Contains (active_muxes net k) b.mux) ends o.on_path;
          in_row = ap (λ k. row_of net k b.mux) (sym ends) ∙ o.in_row;
        },
        test_reached bs (last_holds h hs) (All-tail (IsBranchOf net) b bs a) o.listed,
      )

-- without muxes there is no branch
pub no_branches : (muxes : List Mux) (m : ℕ) → length muxes ≤ 0 → branches_from m muxes ≡ []
no_branches [] m l = refl
no_branches (x ∷ xs) m l = absurd (omega (arith, l))
