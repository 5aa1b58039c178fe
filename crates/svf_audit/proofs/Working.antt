-- Work that is left, beside the bench: dropping redundant groups and doing run cycles, one after the other.
use Rattle.std.proofs.Common.{◌≡◌, ⊎_elim, ℕ, zero, suc, Bool, true, false, List, [], ◌∷◌, ◌++◌, Option, Some}
use Rattle.std.proofs.Common.{None, refl, sym, ap, ◌∙◌, subst}
use Rattle.std.specs.Prelude.{All, map, replicate, option_and_then}
use Rattle.std.specs.List.{list_all}
use Rattle.std.proofs.lemmas.Bool.{true≢false, cases_Bool, and_parts}
use Rattle.std.proofs.lemmas.List.{append-nil}
use Rattle.std.proofs.lemmas.List.Elements.{All-nil, All-cons, All-head, All-tail, All-append, All-replicate}
use Rattle.std.proofs.lemmas.List.Elements.{All-weaker}
use Rattle.net_graph.specs.declared.device.Device.{Device}
use Rattle.net_graph.specs.declared.net.Net.{Net}
use Rattle.net_graph.specs.declared.step.ReadBit.{ReadBit}
use Rattle.net_graph.specs.declared.step.WriteBit.{WriteBit}
use Rattle.net_graph.specs.Selects.{SelectsDriveNothing}
use Rattle.net_graph.specs.SeenSteps.{SeenGroup, SeenStep, Apply, Run, Reset as ResetStep}
use Rattle.net_graph.specs.Signals.{Holds}
use Rattle.net_graph.specs.Steps.{IsDataBit, IsGroup, IsStep}
use Rattle.net_graph.specs.Writes.{write_all}
use Rattle.net_graph.proofs.DataBits.{SameData, write_same}
use Rattle.net_graph.proofs.Shapes.{shape, widths}
use Rattle.net_graph.proofs.Writing.{IsHeld, write_all-shape}
use Rattle.instruments.specs.Machine.{Log, Machine, Run as RunEvent}
use Rattle.instruments.specs.OnNetwork.{changes, all_have}
use Rattle.instruments.proofs.Changing.{changes_none}
use Rattle.instruments.proofs.Seeing.{all_have_same, inputs_same}
use Rattle.net_bench.specs.Laws.{ran}
use Rattle.net_bench.specs.Bench.{Chip, State, fault_free}
use Rattle.pdl_meaning.specs.Direct.{Direct, do_group, do_rounds, do_step, do_all, run_cycles}
use Rattle.pdl_meaning.specs.Direct.{found as found_in}
use Rattle.headline.specs.Agreement.{Agrees}
use Rattle.tap_machine.specs.Play.{is_empty}
use Rattle.svf_audit.specs.Work.{Work, Group, Cycle, Reset, work_of, all_work, has_value, is_redundant, due}
use Rattle.svf_audit.specs.Work.{after_cycle, after_cycles}
use Rattle.svf_audit.specs.AuditedWork.{do_piece, do_work}
use Rattle.svf_audit.proofs.Changing.{writes_done}
use Rattle.std.proofs.lemmas.Option.{none-some}

-- a piece of valid steps
abbrev pub IsWork : Net → Work → Type 0
IsWork net (Group g) = IsGroup net g
IsWork net Cycle = Unit {0}
IsWork net Reset = Unit {0}

groups_work : (net : Net) (gs : List SeenGroup) → All (IsGroup net) gs → All (IsWork net) (map Group gs)
groups_work net [] a = All-nil (IsWork net)
groups_work net (g ∷ gs) a =
    All-cons (IsWork net) (Group g) (map Group gs) (All-head (IsGroup net) g gs a)
    (groups_work net gs (All-tail (IsGroup net) g gs a))

step_work : (net : Net) (step : SeenStep) → IsStep net step → All (IsWork net) (work_of step)
step_work net (Apply rounds) v = groups_work net rounds v.1
step_work net (Run n) v = All-replicate (IsWork net) n Cycle tt
step_work net ResetStep v = All-cons (IsWork net) Reset [] tt (All-nil (IsWork net))

pub steps_work : (net : Net) (steps : List SeenStep)
    → All (IsStep net) steps → All (IsWork net) (all_work steps)
steps_work net [] a = All-nil (IsWork net)
steps_work net (s ∷ ss) a =
    All-append (IsWork net) (work_of s) (all_work ss) (step_work net s (All-head (IsStep net) s ss a))
    (steps_work net ss (All-tail (IsStep net) s ss a))

module _ {L : Type 0} (log : Log L) (net : Net) (machines : List Machine) where
  abbrev work : Direct L → List Work → Direct L
  work = do_work log net machines

  work-append : (xs ys : List Work) (d : Direct L) → work d (xs ++ ys) ≡ work (work d xs) ys
  work-append [] ys d = refl
  work-append (x ∷ xs) ys d = work-append xs ys (do_piece log net machines d x)

  rounds_worked : (gs : List SeenGroup) (d : Direct L)
      → work d (map Group gs) ≡ do_rounds log net machines d gs
  rounds_worked [] d = refl
  rounds_worked (g ∷ gs) d = rounds_worked gs (do_group log net machines d g)

  cycles_worked : (n : ℕ) (d : Direct L) → work d (replicate n Cycle) ≡ run_cycles log net machines n d
  cycles_worked zero d = refl
  cycles_worked (suc n) d = cycles_worked n (run_cycles log net machines 1 d)

  step_worked : (step : SeenStep) (d : Direct L) → work d (work_of step) ≡ do_step log net machines d step
  step_worked (Apply rounds) d = rounds_worked rounds d
  step_worked (Run n) d = cycles_worked n d
  step_worked ResetStep d = refl

  -- the pieces of steps mean what the steps mean
  pub steps_worked : (steps : List SeenStep) (d : Direct L)
      → work d (all_work steps) ≡ do_all log net machines d steps
  steps_worked [] d = refl
  steps_worked (s ∷ ss) d =
      work-append (work_of s) (all_work ss) d
      ∙ ap (λ x. work x (all_work ss)) (step_worked s d)
      ∙ steps_worked ss (do_step log net machines d s)

pub empty_is : {X : Type 0} (xs : List X) → is_empty xs ≡ true → xs ≡ []
empty_is [] e = refl
empty_is (x ∷ xs) e = absurd (true≢false (sym e))

module _ {L : Type 0} (log : Log L) (net : Net) (device : Device) (machines : List Machine)
    (u : SelectsDriveNothing net) (goal : Direct L) (found : List (ReadBit × Bool)) where
  abbrev chip : Chip L
  chip = fault_free log net device machines

  -- the bench agrees with the direct meaning so far, whose reads are known, and what is left leads to the
  -- goal
  pub record Along (s : State L) (left : List Work) (d : Direct L) : Type 0 where
    pub agrees : Agrees net s d
    pub widths : shape d.holds ≡ widths net
    pub valid : All (IsWork net) left
    pub ends : do_work log net machines d left ≡ goal
    pub reads : d.reads ≡ found

  abbrev pub GoesAlong : State L → List Work → Type 0
  GoesAlong s left = (d : Direct L) × Along s left d

  module _ (s : State L) (w : shape s.holds ≡ widths net) where
    held : (h : Holds) → shape h ≡ widths net → (ws : List WriteBit)
        → All (λ w. IsDataBit net w.bit) ws → All (λ w. IsHeld (shape h) w.bit) ws
    held h e ws a =
        All-weaker (λ w. IsDataBit net w.bit) (λ w. IsHeld (shape h) w.bit)
        (λ w b. subst (λ ns. IsHeld ns w.bit) (sym e) b.there) ws a

    -- a redundant group changes nothing
    redundant_along : (g : SeenGroup) (ws : List Work) (d : Direct L) → Along s (Group g ∷ ws) d
        → is_redundant s.holds (Group g) ≡ true → Along s ws (do_group log net machines d g)
    redundant_along g ws d a t =
        let v = All-head (IsWork net) (Group g) ws a.valid in
        let both = and_parts (is_empty g.reads) (list_all (has_value s.holds) g.writes) t in
        let then = write_all d.holds g.writes in
        let mine : SameData net s.holds (write_all s.holds g.writes) =
        writes_done net [] s.holds s.holds refl (λ r m. refl) g v w both.1 in
        let same : SameData net (write_all s.holds g.writes) then = write_same net g.writes s.holds d.holds
        (w ∙ sym a.widths) (held s.holds w g.writes v.written) a.agrees.holds in
        let stays : SameData net then d.holds = λ b z. sym (same b z) ∙ sym (mine b z) ∙ a.agrees.holds b z in
        let insts : changes log net machines d.holds then d.insts ≡ d.insts =
        changes_none log net machines d.holds then d.insts (inputs_same net then d.holds stays u) in
        record {
          agrees = record { holds = λ b z. mine b z ∙ same b z; insts = a.agrees.insts ∙ sym insts };
          widths = write_all-shape g.writes d.holds ∙ a.widths;
          valid = All-tail (IsWork net) (Group g) ws a.valid;
          ends = a.ends;
          reads = ap (λ rs. d.reads ++ map (found_by d) rs) (empty_is g.reads both.0)
              ∙ append-nil d.reads ∙ a.reads;
        }
      where
        found_by : Direct L → ReadBit → ReadBit × Bool
        found_by d r = found_in log net machines d r

    abbrev after : Work → List Work → Bool → List Work
    after x ws t = elim t [ true ↦ due s.holds ws | false ↦ x ∷ ws ]

    -- what is due, after redundant groups
    pub due_along : (left : List Work) (d : Direct L) → Along s left d → GoesAlong s (due s.holds left)
    due_along [] d a = (d, a)
    due_along (Cycle ∷ ws) d a = (d, a)
    due_along (Reset ∷ ws) d a = (d, a)
    due_along (Group g ∷ ws) d a =
        ⊎_elim
        (λ t. subst (GoesAlong s) (sym (ap (after (Group g) ws) t))
        (due_along ws (do_group log net machines d g) (redundant_along g ws d a t)))
        (λ t. subst (GoesAlong s) (sym (ap (after (Group g) ws) t)) (d, a))
        (cases_Bool (is_redundant s.holds (Group g)))

  -- one run cycle
  abbrev pub cycled : State L → State L
  cycled s = record s { insts = all_have log net machines RunEvent s.holds s.insts }

  same_left : (w : List Work) (ws : List Work) → after_cycle w ≡ Some ws → w ≡ Cycle ∷ ws
  same_left [] ws e = absurd (none-some ws e)
  same_left (Group g ∷ vs) ws e = absurd (none-some ws e)
  same_left (Reset ∷ vs) ws e = absurd (none-some ws e)
  same_left (Cycle ∷ vs) ws e = ap (λ o. Cycle ∷ elim o [ Some x ↦ x | None ↦ vs ]) e

  cycle_along : (s : State L) (ws : List Work) (d : Direct L) → Along s (Cycle ∷ ws) d
      → Along (cycled s) ws (run_cycles log net machines 1 d)
  cycle_along s ws d a =
      let same = ap (all_have log net machines RunEvent s.holds) a.agrees.insts ∙ all_have_same log net
      machines RunEvent s.holds d.holds d.insts (inputs_same net s.holds d.holds a.agrees.holds u) in
      record {
        agrees = record { holds = a.agrees.holds; insts = same };
        widths = a.widths;
        valid = All-tail (IsWork net) Cycle ws a.valid;
        ends = a.ends;
        reads = a.reads;
      }

  then_some : {A B : Type 0} (f : A → Option B) (o : Option A) (y : B) → option_and_then f o ≡ Some y
      → (x : A) × (o ≡ Some x) × (f x ≡ Some y)
  then_some f None y e = absurd (none-some y e)
  then_some f (Some x) y e = (x, refl, e)

  -- this many of them
  pub cycles_along : (n : ℕ) (s : State L) (left after : List Work) (d : Direct L)
      → shape s.holds ≡ widths net → after_cycles s.holds n left ≡ Some after
      → Along s left d → GoesAlong (ran chip n s) after
  cycles_along zero s left after d w e a =
      subst (GoesAlong s) (ap (λ o. elim o [ Some x ↦ x | None ↦ left ]) e) (d, a)
  cycles_along (suc n) s left after d w e a =
      let (ws, q, e') = then_some (after_cycles s.holds n) (after_cycle (due s.holds left)) after e in
      let (d1, a1) = due_along s w left d a in
      let a2 = subst (λ l. Along s l d1) (same_left (due s.holds left) ws q) a1 in
      cycles_along n (cycled s) ws after (run_cycles log net machines 1 d1) w e' (cycle_along s ws d1 a2)
