-- A group's reads stand at one place each, whatever plans were found; and so do those of rounds and of bit
-- steps.
use Rattle.std.proofs.Common.{◌≡◌, ℕ, suc, ◌+◌, List, [], ◌∷◌, ◌++◌, length, refl, sym, ap, ◌∙◌, subst, arith}
use Rattle.std.specs.Prelude.{drop, get_or, map}
use Rattle.std.proofs.lemmas.Bool.{true≢false}
use Rattle.net_graph.specs.declared.net.Net.{Net}
use Rattle.net_graph.specs.Groups.{IsEmpty}
use Rattle.net_graph.specs.Resets.{reset_holds, start_holds}
use Rattle.net_graph.specs.SeenSteps.{SeenGroup}
use Rattle.net_graph.specs.Signals.{Holds}
use Rattle.net_graph.specs.Writes.{write_all}
use Rattle.net_tree.specs.Form.{Items}
use Rattle.path_planner.specs.Plans.{ArePlans, Settles}
use Rattle.headline.specs.Scans.{holds_after}
use Rattle.headline.specs.Retargeting.{PlannedGroup, PlannedStep, Applies, Runs, Resets, seen_of}
use Rattle.headline.specs.Retargeting.{holds_after_rounds, GroupsArePlanned, StepsArePlanned}
use Rattle.headline.proofs.StepKinds.{kind, groups, head_same}
use Rattle.run_report.specs.Laws.{PlacesAreOne}
use Rattle.run_report.specs.Places.{scan_places, plans_places, rounds_places, steps_places}
use Rattle.run_report.specs.Places.{scans_after_rounds}
use Rattle.ij_bits.proofs.Lists.{no_head}

module _ (net : Net) (form : Items) (g : SeenGroup) where
  pub record AreSame (h : Holds) (n : ℕ) (ps qs : List SeenGroup) : Type 0 where
    pub places : plans_places net h n ps ≡ plans_places net h n qs
    pub count : length ps ≡ length qs
    pub holds : holds_after h ps ≡ holds_after h qs

  -- an opening scan has no reads
  opens : (h : Holds) (scans : ℕ) (p : SeenGroup) (ps : List SeenGroup) → Settles net form g h p
      → plans_places net h scans (p ∷ ps) ≡ plans_places net (write_all h p.writes) (suc scans) ps
  opens h scans p ps s =
      ap (λ rs. scan_places net h (suc scans) rs
      ++ plans_places net (write_all h p.writes) (suc scans) ps) s.reads_nothing

  pub plans_same : ¬ IsEmpty g → (ps qs : List SeenGroup) (h : Holds) (scans : ℕ) → ArePlans net form g h ps
      → ArePlans net form g h qs → AreSame h scans ps qs
  plans_same named [] qs h scans a b = absurd (named a)
  plans_same named (p ∷ ps) [] h scans a b = absurd (named b)
  plans_same named (p ∷ []) (q ∷ []) h scans a b =
      let e : p ≡ q = a.1 ∙ sym b.1 in
      record {
        places = ap (λ x. plans_places net h scans (x ∷ [])) e;
        count = refl;
        holds = ap (λ (x : SeenGroup). write_all h x.writes) e;
      }
  plans_same named (p ∷ []) (q ∷ (r ∷ qs)) h scans a b = absurd (true≢false (sym a.2 ∙ b.0.off_path))
  plans_same named (p ∷ (r ∷ ps)) (q ∷ []) h scans a b = absurd (true≢false (sym b.2 ∙ a.0.off_path))
  plans_same named (p ∷ (r ∷ ps)) (q ∷ (t ∷ qs)) h scans a b =
      let next : write_all h p.writes ≡ write_all h q.writes = a.0.settled ∙ sym b.0.settled in
      let rest = plans_same named (r ∷ ps) (t ∷ qs) (write_all h p.writes) (suc scans) a.1
      (subst (λ k. ArePlans net form g k (t ∷ qs)) (sym next) b.1) in
      record {
        places = opens h scans p (r ∷ ps) a.0 ∙ rest.places
            ∙ ap (λ k. plans_places net k (suc scans) (t ∷ qs)) next ∙ sym (opens h scans q (t ∷ qs) b.0);
        count = ap suc rest.count;
        holds = rest.holds ∙ ap (λ k. holds_after k (t ∷ qs)) next;
      }

module _ (net : Net) (form : Items) where
  record AreSameRounds (h : Holds) (n : ℕ) (ps qs : List PlannedGroup) : Type 0 where
    pub places : rounds_places net h n ps ≡ rounds_places net h n qs
    pub scans : scans_after_rounds n ps ≡ scans_after_rounds n qs
    pub holds : holds_after_rounds h ps ≡ holds_after_rounds h qs

  rounds_same : (ps qs : List PlannedGroup) (h : Holds) (scans : ℕ)
      → GroupsArePlanned net form h ps → GroupsArePlanned net form h qs
      → map (λ p. p.group) ps ≡ map (λ p. p.group) qs → AreSameRounds h scans ps qs
  rounds_same [] [] h scans a b e = record { places = refl; scans = refl; holds = refl }
  rounds_same [] (q ∷ qs) h scans a b e = absurd (no_head q.group (map (λ p. p.group) qs) e)
  rounds_same (p ∷ ps) [] h scans a b e = absurd (no_head p.group (map (λ p. p.group) ps) (sym e))
  rounds_same (p ∷ ps) (q ∷ qs) h scans a b e =
      let g : p.group ≡ q.group = ap (λ gs. get_or gs 0 p.group) e in
      let one = plans_same net form p.group a.0.named p.plans q.plans h scans a.0.plans
      (subst (λ z. ArePlans net form z h q.plans) (sym g) b.0.plans) in
      let mid : scans + length p.plans ≡ scans + length q.plans = ap (λ n. scans + n) one.count in
      let moved = subst (λ k. GroupsArePlanned net form k qs) (sym one.holds) b.1 in
      let later = rounds_same ps qs (holds_after h p.plans)
      (scans + length p.plans) a.1 moved (ap (drop 1) e) in
      record {
        places =
            ap (λ xs. xs ++ rounds_places net (holds_after h p.plans) (scans + length p.plans) ps) one.places
            ∙ ap (λ xs. plans_places net h scans q.plans ++ xs)
            (later.places ∙ ap (λ k. rounds_places net k (scans + length p.plans) qs) one.holds
            ∙ ap (λ n. rounds_places net (holds_after h q.plans) n qs) mid);
        scans = later.scans ∙ ap (λ n. scans_after_rounds n qs) mid;
        holds = later.holds ∙ ap (λ k. holds_after_rounds k qs) one.holds;
      }

  steps_same : (xs ys : List PlannedStep) (h : Holds) (scans : ℕ) → StepsArePlanned net form h xs
      → StepsArePlanned net form h ys → map seen_of xs ≡ map seen_of ys
      → steps_places net h scans xs ≡ steps_places net h scans ys
  steps_same [] [] h scans a b e = refl
  steps_same [] (y ∷ ys) h scans a b e = absurd (no_head (seen_of y) (map seen_of ys) e)
  steps_same (x ∷ xs) [] h scans a b e = absurd (no_head (seen_of x) (map seen_of xs) (sym e))
  steps_same (Applies ps ∷ xs) (Applies qs ∷ ys) h scans a b e =
      let same = rounds_same ps qs h scans a.1 b.1
      (ap groups (head_same (Applies ps) (Applies qs) xs ys e)) in
      let later = steps_same xs ys (holds_after_rounds h ps) (scans_after_rounds scans ps) a.2
      (subst (λ k. StepsArePlanned net form k ys) (sym same.holds) b.2) (ap (drop 1) e) in
      ap (λ rs. rs ++ steps_places net (holds_after_rounds h ps) (scans_after_rounds scans ps) xs) same.places
      ∙ ap (λ rs. rounds_places net h scans qs ++ rs)
      (later ∙ ap (λ k. steps_places net k (scans_after_rounds scans ps) ys) same.holds
      ∙ ap (λ n. steps_places net (holds_after_rounds h qs) n ys) same.scans)
  steps_same (Applies ps ∷ xs) (Runs k ∷ ys) h scans a b e =
      let z : 0 ≡ 1 = ap kind (head_same (Applies ps) (Runs k) xs ys e) in
      absurd (omega (arith, z))
  steps_same (Applies ps ∷ xs) (Resets ∷ ys) h scans a b e =
      let z : 0 ≡ 2 = ap kind (head_same (Applies ps) Resets xs ys e) in
      absurd (omega (arith, z))
  steps_same (Runs k ∷ xs) (Applies qs ∷ ys) h scans a b e =
      let z : 1 ≡ 0 = ap kind (head_same (Runs k) (Applies qs) xs ys e) in
      absurd (omega (arith, z))
  steps_same (Runs k ∷ xs) (Runs m ∷ ys) h scans a b e = steps_same xs ys h scans a.1 b.1 (ap (drop 1) e)
  steps_same (Runs k ∷ xs) (Resets ∷ ys) h scans a b e =
      let z : 1 ≡ 2 = ap kind (head_same (Runs k) Resets xs ys e) in
      absurd (omega (arith, z))
  steps_same (Resets ∷ xs) (Applies qs ∷ ys) h scans a b e =
      let z : 2 ≡ 0 = ap kind (head_same Resets (Applies qs) xs ys e) in
      absurd (omega (arith, z))
  steps_same (Resets ∷ xs) (Runs m ∷ ys) h scans a b e =
      let z : 2 ≡ 1 = ap kind (head_same Resets (Runs m) xs ys e) in
      absurd (omega (arith, z))
  steps_same (Resets ∷ xs) (Resets ∷ ys) h scans a b e =
      steps_same xs ys (reset_holds net h) (suc scans) a b (ap (drop 1) e)

pub places_are_one : PlacesAreOne
places_are_one net form xs ys a b e = steps_same net form xs ys (start_holds net) 1 a b e
