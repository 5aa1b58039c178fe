-- The steps of a planner: each plan settles what is needed, and as many as the group is deep bring its
-- registers onto the path.
use Rattle.std.proofs.Common.{◌≡◌, ⊎_elim, ℕ, suc, ◌-◌, ◌<◌, Bool, true, false, List, [], ◌∷◌, ◌++◌, length}
use Rattle.std.proofs.Common.{Some, None, refl, sym, ap, ◌∙◌, subst, arith, append_assoc, length-append}
use Rattle.std.specs.Prelude.{map, flat_map, reverse, option_map, IsTrue, IsFalse, All, ◌&&◌, replicate}
use Rattle.std.specs.List.{list_all}
use Rattle.std.proofs.lemmas.Bool.{true≢false, cases_Bool, cases_lt}
use Rattle.std.proofs.lemmas.List.{map-append}
use Rattle.net_graph.specs.declared.branch.Branch.{Branch}
use Rattle.net_graph.specs.declared.net.Net.{Net}
use Rattle.net_graph.specs.declared.net.Point.TheVariants.{Mux as FromMux, Reg as FromReg}
use Rattle.net_graph.specs.Groups.{registers_of, IsEmpty}
use Rattle.net_graph.specs.declared.net.BitId.{BitId}
use Rattle.net_graph.specs.Named.{IsBitOf}
use Rattle.net_graph.proofs.Selecting.{is_held}
use Rattle.net_graph.specs.Held.{IsHeld}
use Rattle.net_graph.specs.Path.{row_of, path as scan_path, mux_source, is_select, select_bits, route_of}
use Rattle.net_graph.specs.Path.{is_in}
use Rattle.net_graph.specs.SeenSteps.{SeenGroup}
use Rattle.net_graph.specs.Signals.{Holds}
use Rattle.net_graph.specs.Writes.{write_all}
use Rattle.net_tree.specs.Form.{Items, Describes}
use Rattle.net_tree.specs.Needs.{needs, group_depth}
use Rattle.net_tree.specs.Places.{place_of}
use Rattle.net_tree.specs.declared.plan.ScanPlan.{ScanPlan}
use Rattle.path_planner.specs.Collecting.{row_writes, settle_writes}
use Rattle.path_planner.specs.FirstRows.{first_rows}
use Rattle.net_tree.specs.ScanPlans.{seen_plan}
use Rattle.path_planner.specs.Opening.{CanOpen}
use Rattle.path_planner.specs.Plans.{Settles, ArePlans}
use Rattle.path_planner.specs.Scannable.{IsScannable}
use Rattle.path_planner.specs.Registers.{add_registers}
use Rattle.path_planner.specs.Settling.{all_on}
use Rattle.path_planner.proofs.Among.{Among, all_among, among_all}
use Rattle.path_planner.proofs.Apart.{in_part}
use Rattle.path_planner.proofs.FirstRows.{first_writes}
use Rattle.path_planner.proofs.Opening.{all_open, is_needed, deeper}
use Rattle.path_planner.proofs.Plans.{at, plan_unseen}
use Rattle.path_planner.proofs.Repeats.{same_all, same_writes}
use Rattle.path_planner.proofs.Settled.{on_scan_path, settles}
use Rattle.path_planner.proofs.Step.{selected}
use Rattle.path_planner.proofs.Values.{select_there}
use Rattle.net_tree.proofs.Walks.{has_walk}
use Rattle.ij_bits.proofs.Lists.{some_of}
use Rattle.std.proofs.lemmas.Option.{none-some}

-- the muxes at a depth below a number are in their needed rows
abbrev pub AreOpen : Net → Items → SeenGroup → Holds → ℕ → Type 0
AreOpen net form g h q =
    (b : Branch) → Among b (needs form g)
    → length (place_of form (FromMux b.mux)) < q → row_of net h b.mux ≡ Some b.row

module _ (net : Net) (form : Items) (g : SeenGroup) where
  -- the registers of a group are on the path from scan-in to scan-out where they are on the traced one
  all_on_path : (holds : Holds) (p : List ℕ) (t : Bool) → scan_path net holds ≡ Some p
      → t ≡ list_all (is_in p) (registers_of g) → all_on net (registers_of g) holds ≡ t
  all_on_path holds p t e f = same (registers_of g) ∙ sym f
    where
      same : (rs : List ℕ) → list_all (is_in (route_of net holds)) rs ≡ list_all (is_in p) rs
      same [] = refl
      same (r ∷ rs) =
          ap (λ b. b && list_all (is_in (route_of net holds)) rs) (sym (on_scan_path net holds p r e))
          ∙ ap (λ b. is_in p r && b) (same rs)

  pub none_open : (holds : Holds) → AreOpen net form g holds 0
  none_open holds b a l = absurd (omega (arith, l))

  -- more than enough settlings leave nothing off the path
  pub not_deep : (holds : Holds) (q : ℕ) → CanOpen net form g holds → AreOpen net form g holds q
      → all_on net (registers_of g) holds ≡ false → q < group_depth form g
  not_deep holds q c o f =
      ⊎_elim (λ l. l) (λ l. absurd (true≢false
      (sym (all_open net form g holds c holds c.listed (λ b a i. o b a (omega (arith, i, l)))) ∙ f)))
      (cases_lt q (group_depth form g))

  module _ (holds : Holds) (c : CanOpen net form g holds)
      (p : SeenGroup) (s : Settles net form g holds p) where
    pub can_go_on : CanOpen net form g (write_all holds p.writes)
    can_go_on = at net form g holds (write_all holds p.writes) c (plan_unseen net form g holds p c s).listed

    pub more_open : (q : ℕ) → AreOpen net form g holds q
        → AreOpen net form g (write_all holds p.writes) (suc q)
    more_open q o =
        subst (λ h. AreOpen net form g h (suc q)) (sym s.settled) (deeper net form c.well_formed c.describes
        c.lawful (needs form g) (is_needed net form g holds c) holds q c.listed o)

  -- its registers are, where those that were collected are
  pub asked_on : (holds : Holds) (path p regs : List ℕ) (t : Bool) → scan_path net holds ≡ Some path
      → p ≡ path → regs ≡ add_registers [] (registers_of g)
      → t ≡ list_all (is_in p) regs → all_on net (registers_of g) holds ≡ t
  asked_on holds path p regs t e f n a =
      all_on_path holds path t e (subst (λ z. t ≡ list_all (is_in z) (registers_of g)) f
      (a ∙ same_all (is_in p) regs (registers_of g) n))

  -- the plan made in a step
  pub opening_plan : (now : Holds) (path p q asked regs : List ℕ) (rows : List Branch) (t : Bool)
      (plan : SeenGroup) → CanOpen net form g now → scan_path net now ≡ Some path → p ≡ path → q ≡ path
      → asked ≡ add_registers [] (registers_of g) → regs ≡ add_registers [] (registers_of g)
      → t ≡ list_all (is_in p) asked → t ≡ false → rows
      ≡ first_rows (replicate (length net.muxes.items) false) (flat_map (λ r. place_of form (FromReg r)) regs)
      → plan.writes ≡ flat_map (row_writes net now q) rows → plan.reads ≡ [] → Settles net form g now plan
  opening_plan now path p q asked regs rows t plan c e f h n m a o k w r =
      settles net form g now c path plan (asked_on now path p asked t e f n a ∙ o) e
      (subst (λ z. plan.writes ≡ settle_writes net now z (replicate (length net.muxes.items) false)
      (needs form g)) h (w ∙ ap (flat_map (row_writes net now q)) k ∙ first_writes net now q
      (flat_map (λ r. place_of form (FromReg r)) regs) (replicate (length net.muxes.items) false)
      ∙ same_writes net form g now c now q regs m)) r

  -- its bits are there
  pub plan_held : (now : Holds) (plan : SeenGroup) → CanOpen net form g now → Settles net form g now plan
      → All (λ w. IsHeld now w.bit) plan.writes
  plan_held now plan c s =
      all_among (λ w. IsHeld now w.bit) plan.writes (λ w i. is_held net now w.bit c.listed.widths
      (select_bit w.bit (among_all (λ w. IsTrue (is_select net w.bit)) w plan.writes s.selects i)))
    where
      select_bit : (b : BitId) → is_select net b ≡ true → IsBitOf net b
      select_bit b t =
          let (m, l, a) = in_part (λ mux. mux.select.items) b net.muxes.items
          (selected b (select_bits net) t) in
          select_there net m b c.well_formed l a

  module _ (first now after : Holds) (plans more : List ScanPlan) (plan : ScanPlan)
      (c : CanOpen net form g now) (s : Settles net form g now (seen_plan plan))
      (e : after ≡ write_all now plan.writes.items) (f : more ≡ plans ++ plan ∷ []) where
    pub after_can : CanOpen net form g after
    after_can = subst (CanOpen net form g) (sym e) (can_go_on now c (seen_plan plan) s)

    one_more : suc (length plans) ≡ length more
    one_more = omega (arith, ap length f, length-append plans (plan ∷ []))

    pub after_open : AreOpen net form g now (length plans) → AreOpen net form g after (length more)
    after_open o =
        subst (λ h. AreOpen net form g h (length more)) (sym e)
        (subst (λ q. AreOpen net form g (write_all now plan.writes.items) q) one_more
        (more_open now c (seen_plan plan) s (length plans) o))

    pub after_plans : ((p : SeenGroup) (ps : List SeenGroup) → ArePlans net form g now (p ∷ ps)
        → ArePlans net form g first (map seen_plan plans ++ p ∷ ps)) → (p : SeenGroup) (ps : List SeenGroup)
        → ArePlans net form g after (p ∷ ps) → ArePlans net form g first (map seen_plan more ++ p ∷ ps)
    after_plans h p ps a =
        subst (ArePlans net form g first)
        (sym (ap (λ z. map seen_plan z ++ p ∷ ps) f ∙ ap (λ z. z ++ p ∷ ps) (map-append seen_plan plans
        (plan ∷ [])) ∙ append_assoc (map seen_plan plans) (seen_plan plan ∷ []) (p ∷ ps)))
        (h (seen_plan plan) (p ∷ ps) (s, subst (λ k. ArePlans net form g k (p ∷ ps)) e a))

    pub fewer_left : AreOpen net form g now (length plans) → all_on net (registers_of g) now ≡ false
        → group_depth form g - length more < group_depth form g - length plans
    fewer_left o t = omega (arith, one_more, not_deep now (length plans) c o t)

  -- the group itself comes last
  pub last_plan : (first now : Holds) (path p regs : List ℕ) (t : Bool) (plans more : List ScanPlan)
      → ¬ IsEmpty g → scan_path net now ≡ Some path → p ≡ path → regs ≡ add_registers [] (registers_of g)
      → t ≡ list_all (is_in p) regs → t ≡ true → ((p : SeenGroup) (ps : List SeenGroup)
      → ArePlans net form g now (p ∷ ps) → ArePlans net form g first (map seen_plan plans ++ p ∷ ps))
      → map seen_plan more ≡ map seen_plan plans ++ g ∷ [] → ArePlans net form g first (map seen_plan more)
  last_plan first now path p regs t plans more some e f n a o h j =
      subst (ArePlans net form g first) (sym j) (h g [] (some, refl, asked_on now path p regs t e f n a ∙ o))
