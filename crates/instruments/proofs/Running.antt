-- Instruments that are kept with the numbers at their inputs.
use Rattle.std.proofs.Common.{◌≡◌, ◌≢◌, ℕ, zero, suc, ◌+◌, ◌<◌, ◌≤◌, Bool, true, false, List, [], ◌∷◌, length}
use Rattle.std.proofs.Common.{take, get_or, refl, sym, ap, ◌∙◌, subst, drop, ◌++◌, append_assoc, add-one}
use Rattle.std.proofs.Common.{arith, inl, inr}
use Rattle.std.specs.Prelude.{IsTrue, All, ◌⊎◌, ◌==◌, ◌&&◌, map, slice_set, replicate}
use Rattle.std.proofs.lemmas.Bool.Decides.{eqb_tells}
use Rattle.std.proofs.lemmas.List.{get_or-set_same, get_or-set_other, get_or-take, get_or_past, length-map}
use Rattle.std.proofs.lemmas.List.{get_or-map, ext_get_or, drop_more, take_more_set, drop-set-lt, map-set}
use Rattle.std.proofs.lemmas.List.{take_all, drop_all, append-nil, set-get_or}
use Rattle.std.proofs.lemmas.Bool.{true≢false}
use Rattle.std.specs.Int.{bit_at}
use Rattle.instruments.specs.Arrays.{StandFor}
use Rattle.instruments.specs.Machine.{Inputs, InstrumentState, Event, Change, Reset, blank, idle_machine}
use Rattle.instruments.specs.Machine.{saturating_up, counted, count_log}
use Rattle.instruments.specs.declared.Counts.{Counts}
use Rattle.instruments.specs.After.{machine_of, output_number}
use Rattle.instruments.specs.Seen.{seen_model}
use Rattle.instruments.specs.declared.model.Model.{Model}
use Rattle.instruments.specs.OnNetwork.{Running, port_numbers, inputs_at, each_from, happens, change_of}
use Rattle.instruments.specs.OnNetwork.{outputs, machine_at, inner_at, same_numbers}
use Rattle.instruments.specs.declared.runner.Runner.{Runner}
use Rattle.instruments.specs.Runners.{machines_of, running_of, insts_of, shown_at}
use Rattle.instruments.specs.Driven.{IsDriven}
use Rattle.net_graph.specs.Held.{AreHolds}
use Rattle.net_graph.specs.Named.{IsInputOf, IsSignalOf}
use Rattle.net_graph.specs.Nets.{IsNet, IsInst}
use Rattle.net_graph.specs.Signals.{Holds}
use Rattle.net_graph.specs.declared.net.Inst.{Inst}
use Rattle.net_graph.specs.declared.net.Net.{Net}
use Rattle.net_graph.specs.declared.net.PortIn.{PortIn}
use Rattle.net_graph.specs.declared.net.Sig.{Sig}
use Rattle.net_graph.specs.declared.net.Sig.TheVariants.{Absent, Zero, One, Bit, Out}
use Rattle.net_graph.proofs.Shapes.{length_at}
use Rattle.std.proofs.lemmas.List.Elements.{All-get_or, All-weaker}
use Rattle.instruments.proofs.Changing.{same_refl}

-- ---- arrays of numbers

-- ---- outputs

pub output_in : (models : List Model) (runners : List Runner) (i port pos : ℕ) (m : Model) (r : Runner)
    → i < length models → length runners ≡ length models → m ≡ get_or models i m → r ≡ get_or runners i r
    → outputs (machines_of models) (insts_of runners) i port pos
    ≡ (bit_at (output_number (seen_model m) r.machine port) pos == 1)
output_in models runners i port pos m r h count e f =
    ap (λ x. x.output (inner_at (insts_of runners) i) port pos)
    (get_or-map (λ m. machine_of (seen_model m)) models i m idle_machine h)
    ∙ ap (λ x. bit_at (output_number (seen_model x) (inner_at (insts_of runners) i) port) pos == 1) (sym e)
    ∙ ap (λ s. bit_at (output_number (seen_model m) s port) pos == 1)
    (inner runners i r (omega (arith, h, count)) f)
  where
    inner : (runners : List Runner) (i : ℕ) (r : Runner) → i < length runners → r ≡ get_or runners i r
        → inner_at (insts_of runners) i ≡ r.machine
    inner runners i r h f =
        get_or-map (λ x. x.inner) (map running_of runners) i (running_of r) blank
        (omega (arith, h, length-map runners running_of))
        ∙ ap (λ x. x.inner) (get_or-map running_of runners i r (running_of r) h)
        ∙ ap (λ x. x.machine) (sym f)

-- ---- events

pub state_is : (a b : InstrumentState) (x y : Counts) → a ≡ b → x ≡ y
    → ◌≡◌ {A = Running Counts} (record { inner = a; log = x }) (record { inner = b; log = y })
state_is a b x y e f = cc

pub one_reset : (c : Counts) (n : ℕ) → n ≡ saturating_up c.resets
    → ◌≡◌ {A = Counts} (record { changes = c.changes; runs = c.runs; resets = n }) (counted c Reset)
one_reset c n e = ap (λ (k : ℕ). record c { resets = k }) e

pub one_change : (c : Counts) (n : ℕ) (before after : Inputs) → n ≡ saturating_up c.changes → ◌≡◌ {A = Counts}
    (record { changes = n; runs = c.runs; resets = c.resets }) (counted c (Change before after))
one_change c n before after e = ap (λ (k : ℕ). record c { changes = k }) e

same_is : (xs ys : Inputs) → same_numbers xs ys ≡ true → xs ≡ ys
same_is [] [] e = refl
same_is [] (y ∷ ys) e = absurd (true≢false (sym e))
same_is (x ∷ xs) [] e = absurd (true≢false (sym e))
same_is (x ∷ xs) (y ∷ ys) e = by (eqb_tells x y) e (same_is xs ys)
  where
    by : (((x == y) ≡ true) × (x ≡ y)) ⊎ (((x == y) ≡ false) × (x ≢ y))
        → ((x == y) && same_numbers xs ys) ≡ true → (same_numbers xs ys ≡ true → xs ≡ ys) → x ∷ xs ≡ y ∷ ys
    by (inl k) f more =
        ap (λ n. n ∷ xs) k.1 ∙ ap (λ l. y ∷ l) (more (sym (ap (λ b. b && same_numbers xs ys) k.0) ∙ f))
    by (inr k) f more = absurd (true≢false (sym f ∙ ap (λ b. b && same_numbers xs ys) k.0))

pub shown_same : (xs ys : List ℕ) (before after : Inputs) → StandFor xs before → StandFor ys after
    → length before ≡ length after → xs ≡ ys → same_numbers before after ≡ true
shown_same xs ys before after s t l e =
    let each : (k : ℕ) → k < length before → get_or before k 0
    ≡ get_or after k 0 = λ k h. sym (s k) ∙ ap (λ (z : List ℕ). get_or z k 0) e ∙ t k in
    ap (λ z. same_numbers before z) (sym (ext_get_or 0 before after l each)) ∙ same_refl before

pub shown_other : (xs ys : List ℕ) (before after : Inputs) → StandFor xs before → StandFor ys after
    → (((k : ℕ) → get_or xs k 0 ≡ get_or ys k 0) → IsTrue false) → same_numbers before after ≡ false
shown_other xs ys before after s t h = by (same_numbers before after) refl
  where
    by : (b : Bool) → same_numbers before after ≡ b → same_numbers before after ≡ false
    by false e = e
    by true e =
        absurd (true≢false
        (sym (h (λ k. s k ∙ ap (λ (z : List ℕ). get_or z k 0) (same_is before after e) ∙ sym (t k)))))

-- ---- one instrument after the other

-- what is left to do from the instrument i on
abbrev pub Left : (ℕ → Running Counts → Running Counts) → ℕ → List Runner → List (Running Counts)
Left f i runners = take i (insts_of runners) ++ each_from f i (drop i (insts_of runners))

each_turn : (f : ℕ → Running Counts → Running Counts) (xs : List (Running Counts)) (i : ℕ)
    (y d : Running Counts) → i < length xs → y ≡ f i (get_or xs i d)
    → take (i + 1) (slice_set xs i y) ++ each_from f (i + 1) (drop (i + 1) (slice_set xs i y))
    ≡ take i xs ++ each_from f i (drop i xs)
each_turn f xs i y d h e =
    let rest = drop (i + 1) xs in
    ap (λ (a : List (Running Counts)). a ++ each_from f (i + 1) (drop (i + 1) (slice_set xs i y)))
    (take_more_set xs i y h)
    ∙ ap (λ (a : List (Running Counts)). (take i xs ++ y ∷ []) ++ each_from f (i + 1) a)
    (drop-set-lt (i + 1) xs i y (omega arith))
    ∙ append_assoc (take i xs) (y ∷ []) (each_from f (i + 1) rest)
    ∙ ap (λ k. take i xs ++ (y ∷ each_from f k rest)) (add-one i)
    ∙ ap (λ z. take i xs ++ (z ∷ each_from f (suc i) rest)) e
    ∙ ap (λ a. take i xs ++ each_from f i a) (sym (drop_more xs i d h))

pub turn : (f : ℕ → Running Counts → Running Counts) (runners : List Runner) (i : ℕ) (d new : Runner)
    → i < length runners → running_of new ≡ f i (running_of (get_or runners i d))
    → Left f (i + 1) (slice_set runners i new) ≡ Left f i runners
turn f runners i d new h g =
    ap (λ (xs : List (Running Counts)). take (i + 1) xs ++ each_from f (i + 1) (drop (i + 1) xs))
    (map-set running_of runners i new)
    ∙ each_turn f (map running_of runners) i (running_of new) (running_of d)
    (omega (arith, h, length-map runners running_of))
    (g ∙ ap (f i) (sym (get_or-map running_of runners i d (running_of d) h)))

pub all_done : (f : ℕ → Running Counts → Running Counts) (runners : List Runner) (i : ℕ)
    → length runners ≤ i → Left f i runners ≡ insts_of runners
all_done f runners i h =
    let few : length (insts_of runners) ≤ i = omega (arith, h, length-map runners running_of) in
    ap (λ (a : List (Running Counts)). a ++ each_from f i (drop i (insts_of runners)))
    (take_all i (insts_of runners) few)
    ∙ ap (λ (a : List (Running Counts)). insts_of runners ++ each_from f i a)
    (drop_all i (insts_of runners) few)
    ∙ append-nil (insts_of runners)

-- ---- what an instrument does at its turn

abbrev pub changed : Net → List Model → Holds → Holds → ℕ → Running Counts → Running Counts
changed net models before now i x =
    change_of count_log (machine_at (machines_of models) i) (inputs_at net before i) (inputs_at net now i) x

abbrev pub had : Net → List Model → Event → Holds → ℕ → Running Counts → Running Counts
had net models e holds i x = happens count_log (machine_at (machines_of models) i) e (inputs_at net holds i) x

pub machine_is : (models : List Model) (i : ℕ) (m : Model) → i < length models → m ≡ get_or models i m
    → machine_at (machines_of models) i ≡ machine_of (seen_model m)
machine_is models i m h e =
    get_or-map (λ m. machine_of (seen_model m)) models i m idle_machine h
    ∙ ap (λ x. machine_of (seen_model x)) (sym e)

pub inputs_are : (net : Net) (holds : Holds) (i : ℕ) (inst : Inst) → i < length net.insts.items
    → inst ≡ get_or net.insts.items i inst → inputs_at net holds i ≡ port_numbers holds inst
inputs_are net holds i inst h e =
    get_or-map (port_numbers holds) net.insts.items i inst [] h ∙ ap (port_numbers holds) (sym e)

-- an instrument has a number for each input port
pub as_many_inputs : (net : Net) (before now : Holds) (i : ℕ)
    → length (inputs_at net before i) ≡ length (inputs_at net now i)
as_many_inputs net before now i = go net.insts.items i
  where
    go : (insts : List Inst) (i : ℕ) → length (get_or (map (port_numbers before) insts) i [])
        ≡ length (get_or (map (port_numbers now) insts) i [])
    go [] i = refl
    go (x ∷ insts) zero = length-map x.ins.items _ ∙ sym (length-map x.ins.items _)
    go (x ∷ insts) (suc i) = go insts i

pub shown_is : (runners : List Runner) (i : ℕ) (d : Runner) → i < length runners
    → shown_at runners i ≡ (get_or runners i d).inputs
shown_is runners i d h = get_or-map (λ r. r.inputs) runners i d (replicate 16 0) h

pub shown_now : (runners : List Runner) (i : ℕ) (new : Runner) → i < length runners
    → shown_at (slice_set runners i new) i ≡ new.inputs
shown_now runners i new h =
    ap (λ xs. get_or xs i (replicate 16 0)) (map-set (λ r. r.inputs) runners i new)
    ∙ get_or-set_same (map (λ r. r.inputs) runners) i new.inputs (replicate 16 0)
    (omega (arith, h, length-map runners (λ r. r.inputs)))

pub shown_other_one : (runners : List Runner) (i k : ℕ) (new : Runner) → k ≢ i
    → shown_at (slice_set runners i new) k ≡ shown_at runners k
shown_other_one runners i k new apart =
    ap (λ xs. get_or xs k (replicate 16 0)) (map-set (λ r. r.inputs) runners i new)
    ∙ get_or-set_other (map (λ r. r.inputs) runners) i k new.inputs (replicate 16 0) apart

-- ---- what drives the inputs is there

pub signal_driven : (net : Net) (holds : Holds) (sig : Sig) → AreHolds net holds
    → IsSignalOf net sig → IsDriven holds sig
signal_driven net holds Absent h i = tt
signal_driven net holds Zero h i = tt
signal_driven net holds One h i = tt
signal_driven net holds (Bit b inverted) h i =
    omega (arith, i, length_at holds b.reg, ap (λ ns. get_or ns b.reg 0) h)
signal_driven net holds (Out inst port pos inverted) h i = tt

abbrev pub IsShort : Holds → PortIn → Type 0
IsShort holds port = (length port.bits.items ≤ 64) × All (IsDriven holds) port.bits.items

-- one more instrument is shown its inputs
pub seen_step : (net : Net) (holds : Holds) (runners : List Runner) (i : ℕ) (new : Runner)
    → i < length runners → StandFor new.inputs (inputs_at net holds i)
    → ((k : ℕ) → k < i → StandFor (shown_at runners k) (inputs_at net holds k)) → (k : ℕ) → k < i + 1
    → StandFor (shown_at (slice_set runners i new) k) (inputs_at net holds k)
seen_step net holds runners i new h s before k low port =
    elim (eqb_tells k i) [
      | inl same ↦
          ap (λ j. get_or (shown_at (slice_set runners i new) j) port 0) same.1
          ∙ ap (λ (xs : List ℕ). get_or xs port 0) (shown_now runners i new h)
          ∙ s port
          ∙ ap (λ j. get_or (inputs_at net holds j) port 0) (sym same.1)
      | inr apart ↦
          ap (λ (xs : List ℕ). get_or xs port 0) (shown_other_one runners i k new apart.1)
          ∙ before k (omega (arith, low, apart.1)) port
    ]

pub shown_of : (xs ys : List Runner) (i : ℕ)
    → map (λ r. r.inputs) xs ≡ map (λ r. r.inputs) ys → shown_at xs i ≡ shown_at ys i
shown_of xs ys i e = ap (λ (zs : List (List ℕ)). get_or zs i (replicate 16 0)) e

-- an instrument is shown nothing else
pub shown_kept : (runners : List Runner) (i : ℕ) (d new : Runner) → i < length runners
    → new.inputs ≡ (get_or runners i d).inputs
    → map (λ r. r.inputs) (slice_set runners i new) ≡ map (λ r. r.inputs) runners
shown_kept runners i d new h e =
    map-set (λ r. r.inputs) runners i new
    ∙ ap (slice_set (map (λ r. r.inputs) runners) i)
    (e ∙ sym (get_or-map (λ r. r.inputs) runners i d d.inputs h))
    ∙ set-get_or (map (λ r. r.inputs) runners) i d.inputs

-- what is shown without an event leaves states and counts
pub insts_kept : (runners : List Runner) (i : ℕ) (d : Runner) (inputs : List ℕ) → i < length runners
    → insts_of (slice_set runners i (record {
      machine =
          (get_or runners i d).machine;
      inputs = inputs;
      counts = (get_or runners i d).counts;
    })) ≡ insts_of runners
insts_kept runners i d inputs h =
    map-set running_of runners i (record
    { machine = (get_or runners i d).machine; inputs = inputs; counts = (get_or runners i d).counts })
    ∙ ap (slice_set (map running_of runners) i) (sym (get_or-map running_of runners i d (running_of d) h))
    ∙ set-get_or (map running_of runners) i (running_of d)

-- ---- what is kept of one instrument

pub inner_is : (runners : List Runner) (i : ℕ) (r : Runner) → i < length runners → r ≡ get_or runners i r
    → inner_at (insts_of runners) i ≡ r.machine
inner_is runners i r h f =
    get_or-map (λ x. x.inner) (map running_of runners) i (running_of r) blank
    (omega (arith, h, length-map runners running_of))
    ∙ ap (λ x. x.inner) (get_or-map running_of runners i r (running_of r) h)
    ∙ ap (λ x. x.machine) (sym f)

pub log_is : (runners : List Runner) (i : ℕ) (r : Runner) → i < length runners → r ≡ get_or runners i r
    → get_or (map (λ x. x.log) (insts_of runners)) i count_log.none ≡ r.counts
log_is runners i r h f =
    get_or-map (λ x. x.log) (map running_of runners) i (running_of r) count_log.none
    (omega (arith, h, length-map runners running_of))
    ∙ ap (λ x. x.log) (get_or-map running_of runners i r (running_of r) h)
    ∙ ap (λ x. x.counts) (sym f)
