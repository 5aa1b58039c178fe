-- The limits of a procedure's bit steps.
use Rattle.std.proofs.Common.{◌≡◌, ◌≤◌, ℕ, ◌+◌, ◌==◌, Bool, true, false, cond, List, [], ◌∷◌, length, refl}
use Rattle.std.proofs.Common.{sym, ap, arith}
use Rattle.std.specs.Prelude.{All, nat_lt, Option, Some, None}
use Rattle.std.proofs.lemmas.Bool.{ltb-false, eqb-true}
use Rattle.ij_text.specs.declared.Place.{Place}
use Rattle.ij_text.specs.Numbers.{InDecimal, InBits}
use Rattle.net_graph.specs.declared.net.Net.{Net}
use Rattle.net_graph.specs.SeenSteps.{SeenGroup, SeenStep, Run}
use Rattle.pdl_parser.specs.Values.{AValue, ANumber, AWord, AnArgument}
use Rattle.pdl_expand.specs.Values.{AnAction, Writes, Reads, Applies, Runs, Resets, BeginsMerge, EndsBranch}
use Rattle.pdl_expand.specs.Values.{EndsMerge, AStep}
use Rattle.pdl_targets.specs.Targets.{Found, Is, Fails, write_bits, read_bits}
use Rattle.pdl_targets.specs.Rounds.{Places, groups}
use Rattle.pdl_targets.specs.Binding.{Queue, empty, Answer, Bound, with_step, applied, run_of, run, run_value}
use Rattle.pdl_targets.specs.Binding.{feed, bound_from, bound}
use Rattle.pdl_targets.specs.Laws.{OfFound, rounds_of, cycles_of, rounds_in, cycles_in, RoundsAreFew}
use Rattle.pdl_targets.specs.Laws.{CyclesAreFew, RunsAreShort}
use Rattle.pdl_targets.proofs.Selects.{then_of}
use Rattle.pdl_targets.proofs.Procedures.{unless_found, rounds_applied}
use Rattle.std.proofs.lemmas.List.Elements.{All-nil, All-cons}

-- a queue within the limits
abbrev IsLimited : Queue → Type 0
IsLimited q = (q.rounds ≤ 4096) × (q.cycles ≤ 4000000)

-- an answer counts its step
abbrev Counts : Queue → Answer → Type 0
Counts q a = IsLimited a.queue × (a.queue.rounds ≡ q.rounds + length (rounds_of a.step))
    × (a.queue.cycles ≡ q.cycles + cycles_of a.step) × (cycles_of a.step ≤ 1000000)

no_cycles : (gs : List SeenGroup) → cycles_of (applied gs) ≡ 0
no_cycles [] = refl
no_cycles (g ∷ gs) = refl

no_rounds : (n : ℕ) → length (rounds_of (run_of n)) ≡ 0
no_rounds n = by_test (n == 0)
  where
    by_test : (t : Bool) → length (rounds_of (cond t None (Some (Run n)))) ≡ 0
    by_test true = refl
    by_test false = refl

all_cycles : (n : ℕ) → cycles_of (run_of n) ≡ n
all_cycles n = by_test (n == 0) refl
  where
    by_test : (t : Bool) → (n == 0) ≡ t → cycles_of (cond t None (Some (Run n))) ≡ n
    by_test true e = sym (eqb-true n 0 e)
    by_test false e = refl

module _ (net : Net) (places : Places) where
  same : (q : Queue) → IsLimited q
      → IsLimited q × (q.rounds ≡ q.rounds + 0) × (q.cycles ≡ q.cycles + 0) × (0 ≤ 1000000)
  same q h = (h, omega arith, omega arith, omega arith)

  runs : (at : Place) (q : Queue) → IsLimited q → (n : ℕ) → OfFound (Counts q) (run at q n)
  runs at q h n =
      unless_found (Counts q) (nat_lt 1000000 n) _ _
      (λ e. unless_found (Counts q) (nat_lt 4000000 (q.cycles + n)) _ _
      (λ f. let short = ltb-false 1000000 n e in
      let none = no_rounds n in
      let all = all_cycles n in
      let few = ltb-false 4000000 (q.cycles + n) f in
      ((h.0, few), omega (arith, none), omega (arith, all), omega (arith, all, short))))

  run_values : (at : Place) (q : Queue) → IsLimited q → (value : AValue)
      → OfFound (Counts q) (run_value at q value)
  run_values at q h (ANumber (InDecimal n)) = runs at q h n
  run_values at q h (ANumber (InBits bits)) = tt
  run_values at q h (AWord name) = tt
  run_values at q h (AnArgument name) = tt

  after : (at : Place) (node : ℕ) (q : Queue) → IsLimited q → (d : AnAction)
      → OfFound (Counts q) (feed net places q (record { at = at; node = node; what = d }))
  after at node q h (Writes target value) =
      then_of (Counts q) (write_bits net at node target value) _ (λ ws. same q h)
  after at node q h (Reads target value) =
      then_of (Counts q) (read_bits net at node (q.asked + 1) target value) _ (λ rs. same q h)
  after at node q h Applies =
      unless_found (Counts q)
      (nat_lt 4096 (q.rounds + length (groups places q.writes q.reads q.registers))) _ _
      (λ e. let few = ltb-false 4096 (q.rounds + length (groups places q.writes q.reads q.registers)) e in
      let all : length (rounds_of (applied (groups places q.writes q.reads q.registers)))
      ≡ length (groups places q.writes q.reads q.registers) =
      ap length (rounds_applied (groups places q.writes q.reads q.registers)) in
      let none = no_cycles (groups places q.writes q.reads q.registers) in
      ((few, h.1), omega (arith, all), omega (arith, none), omega (arith, none)))
  after at node q h (Runs value) = run_values at q h value
  after at node q h Resets = same q h
  after at node q h BeginsMerge = same q h
  after at node q h EndsBranch = same q h
  after at node q h EndsMerge = same q h

  -- ---- a procedure

  abbrev Few : Queue → Bound → Type 0
  Few q b = (q.rounds + rounds_in b.steps ≤ 4096) × (q.cycles + cycles_in b.steps ≤ 4000000)
      × All (λ s. cycles_of (Some s) ≤ 1000000) b.steps

  with_few : (q : Queue) (a : Answer) (b : Bound) → Counts q a
      → Few a.queue b → Few q (with_step a.step b)
  with_few q a b h k = by_step a.step h.1 h.2 h.3
    where
      by_step : (o : Option SeenStep) → a.queue.rounds ≡ q.rounds + length (rounds_of o)
          → a.queue.cycles ≡ q.cycles + cycles_of o → cycles_of o ≤ 1000000 → Few q (with_step o b)
      by_step None e f g = (omega (arith, e, k.0), omega (arith, f, k.1), k.2)
      by_step (Some s) e f g = (
        omega (arith, e, k.0),
        omega (arith, f, k.1),
        All-cons (λ s. cycles_of (Some s) ≤ 1000000) s b.steps g k.2,
      )

  all_few : (steps : List AStep) (q : Queue) → IsLimited q → Few q (bound_from net places q steps)
  all_few [] q h = (omega (arith, h.0), omega (arith, h.1), All-nil (λ s. cycles_of (Some s) ≤ 1000000))
  all_few (s ∷ ss) q h =
      by_answer (λ p k. all_few ss p k) (feed net places q s) (after s.at s.node q h s.what)
    where
      by_answer : ((p : Queue) → IsLimited p → Few p (bound_from net places p ss))
          → (x : Found Answer) → OfFound (Counts q) x
          → Few q (elim x as (λ x. Bound) [
            | Is answer ↦ with_step answer.step (bound_from net places
                answer.queue ss)
            | Fails fault ↦ record { steps = []; fault = Some fault }
          ])
      by_answer ih (Is answer) k =
          with_few q answer (bound_from net places answer.queue ss) k (ih answer.queue k.0)
      by_answer ih (Fails fault) k =
          (omega (arith, h.0), omega (arith, h.1), All-nil (λ s. cycles_of (Some s) ≤ 1000000))

pub rounds_are_few : RoundsAreFew
unfolding bound
rounds_are_few net places steps =
    let few = (all_few net places steps empty (omega arith, omega arith)).0 in omega (arith, few)

pub cycles_are_few : CyclesAreFew
unfolding bound
cycles_are_few net places steps =
    let few = (all_few net places steps empty (omega arith, omega arith)).1 in omega (arith, few)

pub runs_are_short : RunsAreShort
unfolding bound
runs_are_short net places steps = (all_few net places steps empty (omega arith, omega arith)).2
