-- The bit steps of a whole procedure.
use Rattle.std.proofs.Common.{◌≡◌, ap, ◌∙◌, ◌≤◌, ℕ, ◌+◌, ◌==◌, Bool, true, false, cond, List, [], ◌∷◌, length}
use Rattle.std.proofs.Common.{refl, arith}
use Rattle.std.specs.Prelude.{All, filter, flat_map, nat_lt, Option, Some, None}
use Rattle.std.proofs.lemmas.Bool.{ltb-false}
use Rattle.std.proofs.lemmas.List.Elements.{All-map, All-filter, All-weaker, All-nil, All-cons}
use Rattle.ij_text.specs.declared.Place.{Place}
use Rattle.ij_text.specs.Numbers.{InDecimal, InBits}
use Rattle.net_graph.specs.declared.net.Net.{Net}
use Rattle.net_graph.specs.declared.step.WriteBit.{WriteBit}
use Rattle.net_graph.specs.declared.step.ReadBit.{ReadBit}
use Rattle.net_graph.specs.Nets.{IsNet}
use Rattle.net_graph.specs.SeenSteps.{SeenGroup, SeenStep, Run}
use Rattle.net_graph.specs.Signals.{capture_signal}
use Rattle.net_graph.specs.Steps.{IsDataBit, IsReadable, IsGroup, IsStep}
use Rattle.net_graph.specs.Path.{is_in}
use Rattle.pdl_parser.specs.Values.{AValue, ANumber, AWord, AnArgument}
use Rattle.pdl_expand.specs.Values.{AnAction, Writes, Reads, Applies, Runs, Resets, BeginsMerge, EndsBranch}
use Rattle.pdl_expand.specs.Values.{EndsMerge, AStep}
use Rattle.pdl_targets.specs.Targets.{AFault, Found, Is, Fails, write_bits, read_bits}
use Rattle.pdl_targets.specs.Rounds.{Places, rounds, part_on, groups}
use Rattle.pdl_targets.specs.Binding.{Queue, empty, Answer, Bound, with_step, applied, run_of, run, run_value}
use Rattle.pdl_targets.specs.Binding.{feed, bound_from, bound}
use Rattle.pdl_targets.specs.Laws.{OfFound, rounds_of, DoesTheQueue, AppliesDoTheQueue, IsQueue, QueueBegins}
use Rattle.pdl_targets.specs.Laws.{QueueGoesOn, IsForOnePath, HasPaths, AppliesHavePaths}
use Rattle.pdl_targets.specs.Laws.{StepsAreOfTheNetwork}
use Rattle.pdl_targets.proofs.Lasting.{stay_once}
use Rattle.pdl_targets.proofs.LastingReads.{reads_stay_once}
use Rattle.pdl_targets.proofs.Parted.{have_each_write, have_each_read}
use Rattle.pdl_targets.proofs.Together.{are_together, need_one_row, none_is_empty}
use Rattle.pdl_targets.proofs.Bits.{OfOption, then_with, writes_are_of_the_network, reads_are_of_the_network}
use Rattle.pdl_targets.proofs.Gathered.{puts_all, puts_all_reads, with_writes_named, with_reads_named}
use Rattle.pdl_targets.proofs.Gathered.{none_named, writes_differ, reads_differ}

under_found : {A : Type 0} (N : Type 0) (P : A → Type 0) (x : Found A)
    → (N → OfFound P x) → OfFound (λ a. N → P a) x
under_found N P (Is a) h = h
under_found N P (Fails fault) h = tt

pub unless_found : {A : Type 0} (P : A → Type 0) (t : Bool) (fault : AFault) (x : Found A)
    → (t ≡ false → OfFound P x) → OfFound P (cond t (Fails fault) x)
unless_found P true fault x h = tt
unless_found P false fault x h = h refl

-- what holds under a premise: of the network where it is well formed, and of the queue alone where nothing is
-- known of it
module _ (net : Net) (places : Places) (N : Type 0) (given : N → IsNet net) where
  abbrev IsData : ReadBit → Type 0
  IsData r = IsDataBit net r.bit × IsReadable net (capture_signal net r.bit)

  abbrev OfNet : List WriteBit → List ReadBit → Type 0
  OfNet writes reads = All (λ w. IsDataBit net w.bit) writes × All IsData reads

  abbrev Good : Queue → Type 0
  Good q = IsQueue q × (N → OfNet q.writes q.reads)

  abbrev GoodStep : SeenStep → Type 0
  GoodStep step = HasPaths places step × (N → IsStep net step)

  abbrev GoodAnswer : Answer → Type 0
  GoodAnswer a = Good a.queue × OfOption GoodStep a.step

  -- ---- groups

  of_groups : (q : Queue) → Good q → All (IsForOnePath places) (groups places q.writes q.reads q.registers)
  of_groups q h k d less = record {
    named = none_is_empty places q.writes q.reads q.registers h.0.0 k d less;
    apart = are_together places q.writes q.reads q.registers k d less;
    rows = λ alone. need_one_row places q.writes q.reads q.registers alone k d less;
  }

  net_group : (q : Queue) → IsQueue q → OfNet q.writes q.reads → (rs : List ℕ)
      → IsGroup net (part_on q.writes q.reads rs)
  net_group q h of rs = record {
    written = All-filter (λ (w : WriteBit). is_in rs w.bit.reg) (λ w. IsDataBit net w.bit) q.writes of.0;
    written_once = writes_differ (λ (w : WriteBit). is_in rs w.bit.reg) q.writes h.1;
    read = All-filter (λ (r : ReadBit). is_in rs r.bit.reg) (λ r. IsDataBit net r.bit) q.reads
        (All-weaker IsData (λ r. IsDataBit net r.bit) (λ r d. d.0) q.reads of.1);
    read_once = reads_differ (λ (r : ReadBit). is_in rs r.bit.reg) q.reads h.2;
    captured = All-filter (λ (r : ReadBit). is_in rs r.bit.reg)
        (λ r. IsReadable net (capture_signal net r.bit)) q.reads
        (All-weaker IsData (λ r. IsReadable net (capture_signal net r.bit)) (λ r d. d.1) q.reads of.1);
  }

  net_groups : (q : Queue) → IsQueue q → OfNet q.writes q.reads
      → All (IsGroup net) (groups places q.writes q.reads q.registers)
  net_groups q h of = All-map (IsGroup net) (part_on q.writes q.reads)
      (rounds places q.registers) (λ k d less. net_group q h of _)

  good_apply : (gs : List SeenGroup) → All (IsForOnePath places) gs
      → (N → All (IsGroup net) gs) → OfOption GoodStep (applied gs)
  good_apply [] h k = tt
  good_apply (g ∷ gs) h k = (h, λ well. (omega arith, k well))

  good_run : (n : ℕ) → n ≤ 1000000 → OfOption GoodStep (run_of n)
  good_run n few = by_test (n == 0)
    where
      by_test : (t : Bool) → OfOption GoodStep (cond t None (Some (Run n)))
      by_test true = tt
      by_test false = (tt, λ well. omega (arith, few))

  -- ---- a step

  runs : (at : Place) (q : Queue) → Good q → (n : ℕ) → OfFound GoodAnswer (run at q n)
  runs at q h n =
      unless_found GoodAnswer (nat_lt 1000000 n) _ _ (λ e. unless_found GoodAnswer
      (nat_lt 4000000 (q.cycles + n)) _ _ (λ f. (h, good_run n (ltb-false 1000000 n e))))

  run_values : (at : Place) (q : Queue) → Good q → (value : AValue)
      → OfFound GoodAnswer (run_value at q value)
  run_values at q h (ANumber (InDecimal n)) = runs at q h n
  run_values at q h (ANumber (InBits bits)) = tt
  run_values at q h (AWord name) = tt
  run_values at q h (AnArgument name) = tt

  after : (at : Place) (node : ℕ) (q : Queue) → Good q → (d : AnAction)
      → OfFound GoodAnswer (feed net places q (record { at = at; node = node; what = d }))
  after at node q h (Writes target value) =
      then_with (λ ws. N → All (λ w. IsDataBit net w.bit) ws) GoodAnswer
      (write_bits net at node target value) _
      (under_found N (All (λ w. IsDataBit net w.bit)) (write_bits net at node target value)
      (λ well. writes_are_of_the_network net at node target value (given well)))
      (λ ws k. (
        (
          (with_writes_named q.writes q.reads q.registers h.0.0 ws, stay_once q.writes ws h.0.1, h.0.2),
          λ well. (puts_all (λ w. IsDataBit net w.bit) q.writes ws (h.1 well).0 (k well), (h.1 well).1),
        ),
        tt,
      ))
  after at node q h (Reads target value) =
      then_with (λ rs. N → All IsData rs) GoodAnswer (read_bits net at node (q.asked + 1) target value) _
      (under_found N (All IsData) (read_bits net at node (q.asked + 1) target value)
      (λ well. reads_are_of_the_network net at node (q.asked + 1) target value (given well)))
      (λ rs k. (
        (
          (
            with_reads_named q.writes q.reads q.registers h.0.0 rs,
            h.0.1,
            reads_stay_once q.reads rs
                h.0.2,
          ),
          λ well. ((h.1 well).0, puts_all_reads IsData q.reads rs (h.1 well).1 (k well)),
        ),
        tt,
      ))
  after at node q h Applies =
      unless_found GoodAnswer
      (nat_lt 4096 (q.rounds + length (groups places q.writes q.reads q.registers))) _ _
      (λ e. (
        ((none_named, tt, tt), λ well. (All-nil (λ w. IsDataBit net w.bit), All-nil IsData)),
        good_apply
            (groups places q.writes q.reads q.registers)
            (of_groups q h) (λ well. net_groups q h.0 (h.1 well)),
      ))
  after at node q h (Runs value) = run_values at q h value
  after at node q h Resets = (h, (tt, λ well. tt))
  after at node q h BeginsMerge = (h, tt)
  after at node q h EndsBranch = (h, tt)
  after at node q h EndsMerge = (h, tt)

  after_step : (q : Queue) → Good q → (s : AStep) → OfFound GoodAnswer (feed net places q s)
  after_step q h s = after s.at s.node q h s.what

  -- ---- a procedure

  with_all : (o : Option SeenStep) (b : Bound) → OfOption GoodStep o
      → All GoodStep b.steps → All GoodStep (with_step o b).steps
  with_all None b h k = k
  with_all (Some s) b h k = All-cons GoodStep s b.steps h k

  all_good : (steps : List AStep) (q : Queue) → Good q → All GoodStep (bound_from net places q steps).steps
  all_good [] q h = All-nil GoodStep
  all_good (s ∷ ss) q h = by_answer (λ p k. all_good ss p k) (feed net places q s) (after_step q h s)
    where
      by_answer : ((p : Queue) → Good p → All GoodStep (bound_from net places p ss).steps)
          → (x : Found Answer) → OfFound GoodAnswer x
          → All GoodStep (elim x as (λ x. Bound) [
            | Is answer ↦ with_step answer.step (bound_from net places answer.queue ss)
            | Fails fault ↦ record { steps = []; fault = Some fault }
          ]).steps
      by_answer ih (Is answer) k =
          with_all answer.step (bound_from net places answer.queue ss) k.1 (ih answer.queue k.0)
      by_answer ih (Fails fault) k = All-nil GoodStep

  begins : Good empty
  begins = ((none_named, tt, tt), λ well. (All-nil (λ w. IsDataBit net w.bit), All-nil IsData))

pub queue_begins : QueueBegins
queue_begins = (none_named, tt, tt)

pub queue_goes_on : QueueGoesOn
queue_goes_on net places q s h =
    weaker (feed net places q s) (after_step net places ⊥ (λ none. absurd none) q (h, λ none. absurd none) s)
  where
    weaker : (x : Found Answer) → OfFound (GoodAnswer net places ⊥ (λ none. absurd none)) x
        → OfFound (λ answer. IsQueue answer.queue) x
    weaker (Is answer) k = k.0.0
    weaker (Fails fault) k = tt

pub applies_have_paths : AppliesHavePaths
unfolding bound
applies_have_paths net places steps k d less = (all_good net places (IsNet net) (λ well. well) steps empty
    (begins net places (IsNet net) (λ well. well)) k d less).0

pub steps_are_of_the_network : StepsAreOfTheNetwork
unfolding bound
steps_are_of_the_network net places steps well k d less = (all_good net places (IsNet net)
    (λ well. well) steps empty (begins net places (IsNet net) (λ well. well)) k d less).1 well

pub rounds_applied : (gs : List SeenGroup) → rounds_of (applied gs) ≡ gs
rounds_applied [] = refl
rounds_applied (g ∷ gs) = refl

pub applies_do_the_queue : AppliesDoTheQueue
applies_do_the_queue net places q at node h =
    unless_found (DoesTheQueue q)
    (nat_lt 4096 (q.rounds + length (groups places q.writes q.reads q.registers))) _ _
    (λ e. record {
      writes = λ test. ap (λ (gs : List SeenGroup). length (filter test (flat_map (λ g. g.writes) gs)))
          (rounds_applied (groups places q.writes q.reads q.registers))
          ∙ have_each_write places q.writes q.reads q.registers h.0 test;
      reads = λ test. ap (λ (gs : List SeenGroup). length (filter test (flat_map (λ g. g.reads) gs)))
          (rounds_applied (groups places q.writes q.reads q.registers))
          ∙ have_each_read places q.writes q.reads q.registers h.0 test;
      no_writes = refl;
      no_reads = refl;
      no_registers = refl;
    })
