-- Bit steps have one script: the scans of a group's plans are those of its opening and of the group.
use Rattle.std.proofs.Common.{◌≡◌, ℕ, List, [], ◌∷◌, length, refl, sym, ap, ◌∙◌, subst, arith}
use Rattle.std.specs.Prelude.{drop, get_or, map, Some, None}
use Rattle.std.proofs.lemmas.Bool.{true≢false}
use Rattle.net_graph.specs.declared.net.Net.{Net}
use Rattle.net_graph.specs.Chain.{chain}
use Rattle.net_graph.specs.Groups.{IsEmpty}
use Rattle.net_graph.specs.Resets.{reset_holds}
use Rattle.net_graph.specs.SeenSteps.{SeenGroup}
use Rattle.net_graph.specs.Signals.{Holds}
use Rattle.net_graph.specs.Writes.{write_all}
use Rattle.net_graph.specs.Path.{route_of}
use Rattle.net_tree.specs.Form.{Items}
use Rattle.path_planner.specs.Plans.{ArePlans, Settles}
use Rattle.svf_writer.specs.SeenCommands.{SeenScan}
use Rattle.headline.specs.Script.{Round, Applied, Ran, WasReset}
use Rattle.headline.specs.Scans.{scan_of, scans_of, holds_after}
use Rattle.headline.specs.Retargeting.{PlannedGroup, PlannedStep, Applies, Runs, Resets, seen_of, rounds_of}
use Rattle.headline.specs.Retargeting.{holds_after_rounds, script_of, GroupsArePlanned, StepsArePlanned}
use Rattle.headline.specs.Retargeting.{ScriptsAreOne}
use Rattle.headline.proofs.StepKinds.{kind, groups, cycles, head_same}
use Rattle.ij_bits.proofs.Lists.{no_head}

-- a silent scan by the update stages after it
abbrev silent : Holds → List ℕ → Holds → SeenScan
silent h path after =
    record {
      len = length (chain path h);
      tdi = Some (chain path after);
      tdo = None;
      mask = None;
      smask = None;
    }

silent_is : (net : Net) (h : Holds) (path : List ℕ) (p : SeenGroup) → p.reads ≡ []
    → scan_of net h path p ≡ silent h path (write_all h p.writes)
silent_is net h path p q = ap (λ rs. scan_of net h path (record p { reads = rs })) q

module _ (net : Net) (form : Items) (g : SeenGroup) where
  settling_same : (h : Holds) (p q : SeenGroup) → Settles net form g h p → Settles net form g h q
      → scan_of net h (route_of net h) p ≡ scan_of net h (route_of net h) q
  settling_same h p q s t =
      let path = route_of net h in
      silent_is net h path p s.reads_nothing ∙ ap (silent h path) (s.settled ∙ sym t.settled)
      ∙ sym (silent_is net h path q t.reads_nothing)

  abbrev pub Same : Holds → List SeenGroup → List SeenGroup → Type 0
  Same h ps qs = (scans_of net h ps ≡ scans_of net h qs) × (holds_after h ps ≡ holds_after h qs)

  module _ (named : ¬ IsEmpty g) where
    pub plans_same : (ps qs : List SeenGroup) (h : Holds) → ArePlans net form g h ps
        → ArePlans net form g h qs → Same h ps qs
    plans_same [] qs h a b = absurd (named a)
    plans_same (p ∷ ps) [] h a b = absurd (named b)
    plans_same (p ∷ []) (q ∷ []) h a b =
        let e : p ≡ q = a.1 ∙ sym b.1 in
        (ap (λ x. scan_of net h (route_of net h) x ∷ []) e, ap (λ (x : SeenGroup). write_all h x.writes) e)
    plans_same (p ∷ []) (q ∷ (r ∷ qs)) h a b = absurd (true≢false (sym a.2 ∙ b.0.off_path))
    plans_same (p ∷ (r ∷ ps)) (q ∷ []) h a b = absurd (true≢false (sym b.2 ∙ a.0.off_path))
    plans_same (p ∷ (r ∷ ps)) (q ∷ (t ∷ qs)) h a b =
        let next : write_all h p.writes ≡ write_all h q.writes = a.0.settled ∙ sym b.0.settled in
        let later = plans_same (r ∷ ps) (t ∷ qs) (write_all h p.writes) a.1
        (subst (λ k. ArePlans net form g k (t ∷ qs)) (sym next) b.1) in
        let first = settling_same h p q a.0 b.0 in (
          ap (λ x. x ∷ scans_of net (write_all h p.writes) (r ∷ ps)) first
              ∙ ap (λ xs. scan_of net h (route_of net h) q ∷ xs)
              (later.0 ∙ ap (λ k. scans_of net k (t ∷ qs)) next),
          later.1 ∙ ap (λ k. holds_after k (t ∷ qs)) next,
        )

module _ (net : Net) (form : Items) where
  abbrev SameRounds : Holds → List PlannedGroup → List PlannedGroup → Type 0
  SameRounds h ps qs = (rounds_of net h ps ≡ rounds_of net h qs)
      × (holds_after_rounds h ps ≡ holds_after_rounds h qs)

  rounds_same : (ps qs : List PlannedGroup) (h : Holds) → GroupsArePlanned net form h ps
      → GroupsArePlanned net form h qs → map (λ p. p.group) ps ≡ map (λ p. p.group) qs → SameRounds h ps qs
  rounds_same [] [] h a b e = (refl, refl)
  rounds_same [] (q ∷ qs) h a b e = absurd (no_head q.group (map (λ p. p.group) qs) e)
  rounds_same (p ∷ ps) [] h a b e = absurd (no_head p.group (map (λ p. p.group) ps) (sym e))
  rounds_same (p ∷ ps) (q ∷ qs) h a b e =
      let g : p.group ≡ q.group = ap (λ gs. get_or gs 0 p.group) e in
      let one = plans_same net form p.group a.0.named p.plans q.plans h a.0.plans
      (subst (λ z. ArePlans net form z h q.plans) (sym g) b.0.plans) in
      let moved = subst (λ k. GroupsArePlanned net form k qs) (sym one.1) b.1 in
      let later = rounds_same ps qs (holds_after h p.plans) a.1 moved (ap (drop 1) e) in
      let round : ◌≡◌ {A = Round} (record { group = p.group; scans = scans_of net h p.plans })
      (record { group = q.group; scans = scans_of net h q.plans }) =
      λ i. record { group = g i; scans = one.0 i } in (
        ap (λ r. r ∷ rounds_of net (holds_after h p.plans) ps) round
            ∙ ap (λ rs. record { group = q.group; scans = scans_of net h q.plans } ∷ rs)
            (later.0 ∙ ap (λ k. rounds_of net k qs) one.1),
        later.1 ∙ ap (λ k. holds_after_rounds k qs) one.1,
      )

  steps_same : (xs ys : List PlannedStep) (h : Holds) → StepsArePlanned net form h xs
      → StepsArePlanned net form h ys → map seen_of xs ≡ map seen_of ys
      → script_of net h xs ≡ script_of net h ys
  steps_same [] [] h a b e = refl
  steps_same [] (y ∷ ys) h a b e = absurd (no_head (seen_of y) (map seen_of ys) e)
  steps_same (x ∷ xs) [] h a b e = absurd (no_head (seen_of x) (map seen_of xs) (sym e))
  steps_same (Applies ps ∷ xs) (Applies qs ∷ ys) h a b e =
      let same = rounds_same ps qs h a.1 b.1 (ap groups (head_same (Applies ps) (Applies qs) xs ys e)) in
      let later = steps_same xs ys (holds_after_rounds h ps) a.2
      (subst (λ k. StepsArePlanned net form k ys) (sym same.1) b.2) (ap (drop 1) e) in
      ap (λ rs. Applied rs ∷ script_of net (holds_after_rounds h ps) xs) same.0
      ∙ ap (λ ds. Applied (rounds_of net h qs) ∷ ds) (later ∙ ap (λ k. script_of net k ys) same.1)
  steps_same (Applies ps ∷ xs) (Runs k ∷ ys) h a b e =
      let z : 0 ≡ 1 = ap kind (head_same (Applies ps) (Runs k) xs ys e) in
      absurd (omega (arith, z))
  steps_same (Applies ps ∷ xs) (Resets ∷ ys) h a b e =
      let z : 0 ≡ 2 = ap kind (head_same (Applies ps) Resets xs ys e) in
      absurd (omega (arith, z))
  steps_same (Runs k ∷ xs) (Applies qs ∷ ys) h a b e =
      let z : 1 ≡ 0 = ap kind (head_same (Runs k) (Applies qs) xs ys e) in
      absurd (omega (arith, z))
  steps_same (Runs k ∷ xs) (Runs m ∷ ys) h a b e =
      let n = ap cycles (head_same (Runs k) (Runs m) xs ys e) in
      ap (λ c. Ran c ∷ script_of net h xs) n
      ∙ ap (λ ds. Ran m ∷ ds) (steps_same xs ys h a.1 b.1 (ap (drop 1) e))
  steps_same (Runs k ∷ xs) (Resets ∷ ys) h a b e =
      let z : 1 ≡ 2 = ap kind (head_same (Runs k) Resets xs ys e) in
      absurd (omega (arith, z))
  steps_same (Resets ∷ xs) (Applies qs ∷ ys) h a b e =
      let z : 2 ≡ 0 = ap kind (head_same Resets (Applies qs) xs ys e) in
      absurd (omega (arith, z))
  steps_same (Resets ∷ xs) (Runs m ∷ ys) h a b e =
      let z : 2 ≡ 1 = ap kind (head_same Resets (Runs m) xs ys e) in
      absurd (omega (arith, z))
  steps_same (Resets ∷ xs) (Resets ∷ ys) h a b e =
      ap (λ ds. WasReset ∷ ds) (steps_same xs ys (reset_holds net h) a b (ap (drop 1) e))

pub scripts_are_one : ScriptsAreOne
scripts_are_one net form h xs ys a b e = steps_same net form xs ys h a b e
