-- What is left of a play, clock by clock.
use Rattle.std.proofs.Common.{◌≡◌, ℕ, zero, suc, ◌+◌, ◌-◌, ◌*◌, Bool, true, false, Option, Some, None, List}
use Rattle.std.proofs.Common.{[], ◌∷◌, ◌++◌, decimal, drop, length, map, take, refl, ap, sym, ◌∙◌, subst}
use Rattle.std.proofs.Common.{arith, not, cond, append-nil, append_assoc, length-append, Vec, Global}
use Rattle.std.specs.Prelude.{IfSome, MatchOption, ◌||◌}
use Rattle.std.proofs.lemmas.List.{length-map}
use Rattle.bench_report.specs.Report.{chip, chip_of, differs_of}
use Rattle.ij_bits.specs.BitLists.{same_bit}
use Rattle.ij_bits.specs.Room.{Listed}
use Rattle.instruments.specs.declared.Counts.{Counts}
use Rattle.instruments.specs.declared.model.Model.{Model}
use Rattle.instruments.specs.Machine.{Machine, count_log}
use Rattle.instruments.specs.Runners.{machines_of}
use Rattle.instruments.specs.Seen.{SeenModel, seen_model}
use Rattle.instruments.proofs.Machines.{machines_are}
use Rattle.net_bench.specs.Bench.{Chip, State, clock, fault_free, power_up, tdo}
use Rattle.net_bench.specs.Board.{SeenBench}
use Rattle.net_bench.specs.Playing.{Compare, after_pins, compare_of, compares, differing}
use Rattle.net_graph.specs.declared.device.Device.{Device}
use Rattle.net_graph.specs.declared.net.Net.{Net}
use Rattle.net_graph.specs.Held.{AreHolds}
use Rattle.net_graph.specs.Nets.{IsNet}
use Rattle.net_graph.specs.Signals.{Holds}
use Rattle.tap_machine.specs.declared.Pins.{Pins}
use Rattle.svf_writer.specs.SeenCommands.{SeenCommand}
use Rattle.tap_machine.specs.declared.Stable.TheVariants.{Reset as InReset}
use Rattle.tap_machine.specs.Play.{no_shift, pins}
use Rattle.tap_machine.specs.Remaining.{Remaining}
use Rattle.net_wave.specs.declared.playing.Playing.{Playing}
use Rattle.net_wave.specs.declared.shown.Shown.{Shown}
use Rattle.net_wave.specs.declared.var.Var.{Var}
use Rattle.net_wave.specs.declared.var.Window.{Window}
use Rattle.net_wave.specs.Changes.{WasTold, pin_digits, shown_at}
use Rattle.net_wave.specs.Left.{CanStep, IsPlaying, after_text, all_vars, before_of, clock_text, differs_with}
use Rattle.net_wave.specs.Left.{falling_text, left_text, models_of, skipped_text, some_differs, text_from}
use Rattle.net_wave.specs.Left.{told_of, values_at}
use Rattle.net_wave.specs.Moments.{change_at, counted, falling, moment_text, moments_from, moments_text}
use Rattle.net_wave.specs.Moments.{next_clock, nothing, rising, untold}
use Rattle.net_wave.specs.Values.{differs, value, values}
use Rattle.net_wave.specs.Wave.{is_any, moments_of}
use Rattle.net_wave.proofs.PinTexts.{up_alike}

pub next_taken : (r : Option Pins) (n : ℕ) (ps qs : List Pins) → (n ≡ 0 → ⊥)
    → MatchOption r (ps ≡ []) (λ p. ps ≡ p ∷ qs) → IfSome r (λ p. take n ps ≡ p ∷ take (n - 1) qs)
next_taken None n ps qs some is = tt
next_taken (Some p) zero ps qs some is = absurd (some refl)
next_taken (Some p) (suc n) ps qs some is =
    let same : suc n - 1 ≡ n = omega arith in
    ap (take (suc n)) is ∙ ap (λ m. p ∷ take m qs) (sym same)

-- ---- the start

untold_count : (n : ℕ) → length (untold n) ≡ n
untold_count zero = refl
untold_count (suc n) = omega (arith, untold_count n, length-append (untold n) (nothing n))

pub told_count : (told : List (Listed ℕ)) (n : ℕ) → told_of told ≡ untold n → length told ≡ n
told_count told n is = sym (length-map told (λ (d : Listed ℕ). d.items)) ∙ ap length is ∙ untold_count n

abbrev text : List SeenModel → List Var → Window → Chip Counts
    → List Pins → State Counts → List (List ℕ) → List ℕ
text models vars window c ps s told =
    moments_text (moments_from c models vars true window.from told
    (take window.count (drop window.from ps)) (after_pins c (take window.from ps) s))

-- what was told before the first moment isn't looked at
module _ (c : Chip Counts) (models : List SeenModel) (vars : List Var) where
  first_falling : (k : ℕ) (told other now : List (List ℕ))
      → falling true k told now ≡ falling true k other now
  first_falling k told other now =
      ap (λ l. record { time = 2 * k; first = true; changes = record { number = 0; digits = 48 ∷ [] } ∷ l })
      (up_alike (change_at true told now) (change_at true other now) (length now) (λ i. refl))

  first_moments : (k : ℕ) (told other : List (List ℕ)) (ps : List Pins) (s : State Counts)
      → moments_from c models vars true k told ps s ≡ moments_from c models vars true k other ps s
  first_moments k told other [] s =
      ap (λ m. m ∷ []) (first_falling k told other (values c models vars (no_shift false) s))
  first_moments k told other (p ∷ ps) s =
      ap (λ m. m ∷ rising k ∷ moments_from c models vars false (next_clock k) (values c models vars p s) ps
      (clock c p.tms p.tdi s)) (first_falling k told other (values c models vars p s))

pub start_text : (net : Net) (device : Device) (models : List Model) (vars : List Var) (window : Window)
    (b : SeenBench) (ps given : List Pins) (told : List (List ℕ))
    → b ≡ record {
      net = net;
      device = device;
      models = models;
      state = power_up (fault_free count_log net device (machines_of models));
    } → ps ≡ given
    → text (map seen_model models) vars window (chip_of b) ps b.state told ≡ moments_text
    (moments_of (chip net device (map seen_model models)) (map seen_model models) vars given window)
unfolding moments_of
start_text net device models vars window b ps given told is pins =
    let seen = map seen_model models in
    let c = fault_free count_log net device (machines_of models) in
    ap (λ (x : SeenBench). text seen vars window (chip_of x) ps x.state told) is
    ∙ ap (λ (x : List Pins). text seen vars window c x (power_up c) told) pins
    ∙ ap moments_text (first_moments c seen vars window.from told (untold (length vars))
    (take window.count (drop window.from given)) (after_pins c (take window.from given) (power_up c)))
    ∙ ap (λ (ms : List Machine). text seen vars window (fault_free count_log net device ms) given
    (power_up (fault_free count_log net device ms)) (untold (length vars))) (machines_are models)

-- ---- clocks that are skipped

pub skipped_next : (p : Playing) (b : SeenBench) (player : Remaining) (stages : Holds) (some : Bool) (m n : ℕ)
    (x : Pins) → m ≡ suc n → p.player.pins ≡ x ∷ player.pins
    → b ≡ record p.bench { state = clock (chip_of p.bench) x.tms x.tdi p.bench.state }
    → skipped_text n (record p { bench = b; player = player; stages = stages; differs = some })
    ≡ skipped_text m p
unfolding skipped_text text_from
skipped_next p b player stages some m n x more given is =
    let models = models_of p in
    let told = before_of p in
    ap (λ (y : SeenBench). moments_text (moments_from (chip_of y) models (all_vars p) p.first p.clock told
    (take p.left (drop n player.pins)) (after_pins (chip_of y) (take n player.pins) y.state))) is
    ∙ ap (λ (ps : List Pins). moments_text (moments_from (chip_of p.bench) models (all_vars p) p.first p.clock
    told (take p.left (drop (suc n) ps)) (after_pins (chip_of p.bench) (take (suc n) ps) p.bench.state)))
    (sym given)
    ∙ ap (λ (k : ℕ). moments_text (moments_from (chip_of p.bench) models
    (all_vars p) p.first p.clock told (take p.left (drop k p.player.pins))
    (after_pins (chip_of p.bench) (take k p.player.pins) p.bench.state))) (sym more)

pub skipped_none : (p : Playing) (player : Remaining) (m : ℕ) → p.player.pins ≡ [] → player.pins ≡ []
    → left_text (record p { player = player }) ≡ skipped_text m p
unfolding left_text skipped_text text_from
skipped_none p player m none end =
    let told = before_of p in
    let models = models_of p in
    ap (λ (ps : List Pins). moments_text (moments_from (chip_of p.bench) models
    (all_vars p) p.first p.clock told (take p.left ps) p.bench.state)) end
    ∙ at m
    ∙ ap (λ (ps : List Pins). moments_text (moments_from (chip_of p.bench) models (all_vars p) p.first p.clock
    told (take p.left (drop m ps)) (after_pins (chip_of p.bench) (take m ps) p.bench.state))) (sym none)
  where
    at : (m : ℕ) → moments_text (moments_from (chip_of p.bench) (models_of p) (all_vars p) p.first p.clock
        (before_of p) (take p.left []) p.bench.state)
        ≡ moments_text (moments_from (chip_of p.bench) (models_of p) (all_vars p) p.first p.clock
        (before_of p) (take p.left (drop m [])) (after_pins (chip_of p.bench) (take m []) p.bench.state))
    at zero = refl
    at (suc m) = refl

pub skipped_all : (p : Playing) (n : ℕ) → n ≡ 0 → left_text p ≡ skipped_text n p
unfolding left_text skipped_text text_from
skipped_all p n none = ap (λ (k : ℕ). skipped_text k p) (sym none)

-- ---- clocks that are written

pub played : (p : Playing) (b : SeenBench) (player : Remaining) (stages : Holds)
    (told : Vec (Listed ℕ) Global) (instruction scratch : Listed ℕ) (last : Shown) (first : Bool) (k : ℕ)
    (digits : Vec ℕ Global) (some : Bool) (t : State Counts) → IsPlaying p → b ≡ record p.bench { state = t }
    → AreHolds p.bench.net stages → (p.shifts ≡ true → stages ≡ b.state.stages)
    → length told.items ≡ length p.vars.items
    → (first ≡ false → WasTold (chip_of b) (models_of p) (all_vars p)
    (pin_digits last instruction.items ++ told_of told.items) last b.state)
    → digits.items ≡ 35 ∷ decimal (counted (2 * k))
    → IsPlaying
    (record p {
      bench = b;
      player = player;
      stages = stages;
      told = told;
      instruction = instruction;
      scratch = scratch;
      last = last;
      first = first;
      clock = k;
      digits = digits;
      differs = some;
    })
played p b player stages told instruction scratch last first k digits
    some t is e shape same count known time =
    record {
      well_formed = is.well_formed;
      models = is.models;
      net = ap (λ (x : SeenBench). x.net) e ∙ is.net;
      same_models = ap (λ (x : SeenBench). x.models) e ∙ is.same_models;
      shape = subst (λ (n : Net). AreHolds n stages) is.net shape;
      stages = same;
      vars = is.vars;
      told = count;
      few = is.few;
      pins = is.pins;
      shifts = is.shifts;
      known = known;
      digits = time;
    }

-- the player and the count of a play are further
abbrev taken : Playing → Remaining → ℕ → Playing
taken p player n = record p { player = player; left = n }

abbrev pub rest : Pins
rest = no_shift false

pub end_text : (p q : Playing) → q ≡ taken p q.player q.left
    → take p.left p.player.pins ≡ [] → falling_text q rest ≡ left_text p
unfolding left_text falling_text values_at text_from
end_text p q same none =
    let told = before_of p in
    let last = falling_text (taken p q.player q.left) rest in
    ap (λ (x : Playing). falling_text x rest) same
    ∙ sym (append-nil last)
    ∙ ap (λ (ps : List Pins). moments_text (moments_from (chip_of p.bench) (models_of p)
    (all_vars p) p.first p.clock told ps p.bench.state)) (sym none)

pub next_text : (p q : Playing) (x : Pins) → q ≡ taken p q.player q.left
    → take p.left p.player.pins ≡ x ∷ take q.left q.player.pins
    → left_text p ≡ clock_text q x ++ after_text q x
unfolding left_text falling_text values_at text_from after_text
next_text p q x same given =
    let told = before_of p in
    let z = taken p q.player q.left in
    ap (λ (ps : List Pins). moments_text (moments_from (chip_of p.bench) (models_of p)
    (all_vars p) p.first p.clock told ps p.bench.state)) given
    ∙ sym (append_assoc (falling_text z x) (moment_text (rising z.clock)) (after_text z x))
    ∙ ap (λ (y : Playing). clock_text y x ++ after_text y x) (sym same)

-- what is left after a clock was written
module _ (p : Playing) (x : Pins) (b : SeenBench) (stages : Holds) (told : Vec (Listed ℕ) Global)
    (instruction scratch : Listed ℕ) (last : Shown) (k : ℕ) (digits : Vec ℕ Global) (some : Bool) where
  abbrev pub later : Playing
  later =
      record p {
        bench = b;
        stages = stages;
        told = told;
        instruction = instruction;
        scratch = scratch;
        last = last;
        first = false;
        clock = k;
        digits = digits;
        differs = some;
      }

  pub clock_left : b ≡ record p.bench { state = clock (chip_of p.bench) x.tms x.tdi p.bench.state }
      → pin_digits last instruction.items ++ told_of told.items ≡ values_at p x
      → k ≡ next_clock p.clock → left_text later ≡ after_text p x
  unfolding left_text after_text text_from
  clock_left e is next =
      let ps = take p.left p.player.pins in
      let s = clock (chip_of p.bench) x.tms x.tdi p.bench.state in
      ap (λ (y : SeenBench). moments_text (moments_from (chip_of y) (models_of p) (all_vars p) false k
      (pin_digits last instruction.items ++ told_of told.items) ps y.state)) e
      ∙ ap (λ (l : List (List ℕ)). moments_text
      (moments_from (chip_of p.bench) (models_of p) (all_vars p) false k l ps s)) is
      ∙ ap (λ (n : ℕ). moments_text
      (moments_from (chip_of p.bench) (models_of p) (all_vars p) false n (values_at p x) ps s)) next

  was_told : b ≡ record p.bench { state = clock (chip_of p.bench) x.tms x.tdi p.bench.state }
      → last ≡ shown_at (chip_of p.bench) x p.bench.state
      → pin_digits last instruction.items ++ told_of told.items ≡ values_at p x → WasTold (chip_of b)
      (models_of p) (all_vars p) (pin_digits last instruction.items ++ told_of told.items) last b.state
  unfolding values_at
  was_told e shows is =
      let c = chip_of p.bench in
      let s = p.bench.state in
      let models = models_of p in
      let all = pin_digits last instruction.items ++ told_of told.items in
      let base : WasTold c models (all_vars p) all last b.state =
      record {
        before = s;
        all = is ∙ ap (λ (l : Shown). values c models (all_vars p) l.pins s) (sym shows);
        shown = shows ∙ ap (λ (l : Shown). shown_at c l.pins s) (sym shows);
        next = ap (λ (y : SeenBench). y.state) e
            ∙ ap (λ (l : Shown). clock c l.pins.tms l.pins.tdi s) (sym shows);
      } in
      subst (λ (ch : Chip Counts). WasTold ch models (all_vars p) all last b.state) (sym (ap chip_of e)) base

  pub clock_played : IsPlaying p
      → b ≡ record p.bench { state = clock (chip_of p.bench) x.tms x.tdi p.bench.state }
      → last ≡ shown_at (chip_of p.bench) x p.bench.state
      → pin_digits last instruction.items ++ told_of told.items ≡ values_at p x
      → length told.items ≡ length p.vars.items
      → AreHolds p.bench.net stages → (p.shifts ≡ true → stages ≡ b.state.stages)
      → digits.items ≡ 35 ∷ decimal (counted (2 * k)) → IsPlaying later
  clock_played is e shows told_is many shape kept time =
      played p b p.player stages told instruction scratch last false k digits some (clock (chip_of p.bench)
      x.tms x.tdi p.bench.state) is e shape kept many (λ none. was_told e shows told_is) time

-- as many digits as there are variables
pub told_as_many : (p : Playing) (x : Pins) (last : Shown) (instruction : List ℕ) (told : List (Listed ℕ))
    → pin_digits last instruction ++ told_of told ≡ values_at p x → length told ≡ length p.vars.items
unfolding values_at
told_as_many p x last instruction told is =
    sym (length-map told (λ (d : Listed ℕ). d.items)) ∙ ap (λ (l : List (List ℕ)). length (drop 9 l)) is
    ∙ length-map p.vars.items (λ (v : Var). value (chip_of p.bench) (models_of p) v x p.bench.state)

-- ---- times

-- TCK rises one later than it falls, and falls again one later than that
pub rise_time : (k time : ℕ) → time ≡ counted (2 * k) → counted (time + 1) ≡ counted (2 * k + 1)
rise_time k time is = omega (arith, is)

pub next_time : (k time rise next : ℕ) → time ≡ counted (2 * k) → rise ≡ counted (time + 1)
    → next ≡ next_clock k → counted (rise + 1) ≡ counted (2 * next)
next_time k time rise next is up on = omega (arith, is, up, on)

-- ---- compares

pub differs_next : (e : Option Bool) (scan bit : ℕ) (found so_far : Bool) (others : List Compare)
    → ((so_far || differs e found) || is_any (differing others))
    ≡ (so_far || is_any (differing (compare_of e scan bit found ++ others)))
differs_next e scan bit found true others = refl
differs_next None scan bit found false others = refl
differs_next (Some e) scan bit found false others = cases (same_bit e found) refl
  where
    cases : (b : Bool) → same_bit e found ≡ b
        → (not (same_bit e found) || is_any (differing others)) ≡ is_any (cond (same_bit e found)
        (differing others) (record { scan = scan; bit = bit; expect = e; found = found } ∷ differing others))
    cases true is =
        ap (λ (b : Bool). not b || is_any (differing others)) is
        ∙ sym (ap (λ (b : Bool). is_any (cond b (differing others)
        (record { scan = scan; bit = bit; expect = e; found = found } ∷ differing others))) is)
    cases false is =
        ap (λ (b : Bool). not b || is_any (differing others)) is
        ∙ sym (ap (λ (b : Bool). is_any (cond b (differing others)
        (record { scan = scan; bit = bit; expect = e; found = found } ∷ differing others))) is)

-- a clock of a play, with what it compares
pub compared : (c d : Chip Counts) (p : Pins) (ps : List Pins) (s t : State Counts) (so_far here some : Bool)
    → c ≡ d → t ≡ clock d p.tms p.tdi s → here ≡ differs p.expect (tdo d s) → some ≡ (so_far || here)
    → (some || is_any (differing (compares c ps t))) ≡ (so_far || is_any (differing (compares d (p ∷ ps) s)))
compared c d p ps s t so_far here some same next found is =
    ap (λ (b : Bool). b || is_any (differing (compares c ps t))) (is ∙ ap (λ (b : Bool). so_far || b) found)
    ∙ ap (λ (x : Chip Counts). (so_far || differs p.expect (tdo d s)) || is_any
    (differing (compares x ps t))) same
    ∙ ap (λ (x : State Counts). (so_far || differs p.expect (tdo d s)) || is_any
    (differing (compares d ps x))) next
    ∙ differs_next p.expect p.scan p.bit (tdo d s) so_far (compares d ps (clock d p.tms p.tdi s))

module _ (p : Playing) where
  -- a clock of which nothing is written
  pub differs_on : (b : SeenBench) (player : Remaining) (stages : Holds) (here some : Bool) (x : Pins)
      → p.player.pins ≡ x ∷ player.pins
      → b ≡ record p.bench { state = clock (chip_of p.bench) x.tms x.tdi p.bench.state }
      → here ≡ differs x.expect (tdo (chip_of p.bench) p.bench.state) → some ≡ (p.differs || here)
      → some_differs (record p { bench = b; player = player; stages = stages; differs = some })
      ≡ some_differs p
  unfolding some_differs
  differs_on b player stages here some x given e found is =
      compared (chip_of b) (chip_of p.bench) x player.pins p.bench.state b.state p.differs here some
      (ap chip_of e) (ap (λ (y : SeenBench). y.state) e) found is
      ∙ ap (λ (ps : List Pins). p.differs || is_any (differing (compares (chip_of p.bench) ps p.bench.state)))
      (sym given)

  pub differs_none : (player : Remaining) → p.player.pins ≡ player.pins
      → some_differs (record p { player = player }) ≡ some_differs p
  unfolding some_differs
  differs_none player same = ap (λ (ps : List Pins). p.differs || is_any
      (differing (compares (chip_of p.bench) ps p.bench.state))) (sym same)

  pub differs_end : p.player.pins ≡ [] → p.differs ≡ some_differs p
  unfolding some_differs
  differs_end none =
      or_false p.differs ∙ ap (λ (ps : List Pins). p.differs || is_any
      (differing (compares (chip_of p.bench) ps p.bench.state))) (sym none)
    where
      or_false : (b : Bool) → b ≡ (b || false)
      or_false true = refl
      or_false false = refl

  pub can_step : IsPlaying p → CanStep p
  can_step is =
      record {
        well_formed = subst IsNet (sym is.net) is.well_formed;
        shape = subst (λ (n : Net). AreHolds n p.stages) (sym is.net) is.shape;
        stages = is.stages;
      }

  -- after the pins of a clock were taken, or where there were none
  module _ (q : Playing) (same : q ≡ taken p q.player q.left) where
    pub differs_given : (x : Pins) → p.player.pins ≡ x ∷ q.player.pins → differs_with q x ≡ some_differs p
    unfolding some_differs differs_with
    differs_given x given =
        ap (λ (y : Playing). y.differs || is_any
        (differing (compares (chip_of y.bench) (x ∷ q.player.pins) y.bench.state))) same
        ∙ ap (λ (ps : List Pins). p.differs || is_any
        (differing (compares (chip_of p.bench) ps p.bench.state))) (sym given)

    module _ (r : Playing) (told : r
        ≡ record q { told = r.told; instruction = r.instruction; scratch = r.scratch; last = r.last }) where
      pub differs_kept : q.player.pins ≡ p.player.pins → some_differs r ≡ some_differs p
      unfolding some_differs
      differs_kept kept =
          ap (λ (y : Playing). y.differs || is_any
          (differing (compares (chip_of y.bench) y.player.pins y.bench.state))) told
          ∙ ap (λ (y : Playing). y.differs || is_any
          (differing (compares (chip_of y.bench) q.player.pins y.bench.state))) same
          ∙ ap (λ (ps : List Pins). p.differs || is_any
          (differing (compares (chip_of p.bench) ps p.bench.state))) kept

      pub step_kept : IsPlaying p → CanStep r
      step_kept is =
          let here = can_step is in
          let taken_too : CanStep q = subst CanStep (sym same)
          (record { well_formed = here.well_formed; shape = here.shape; stages = here.stages }) in
          subst CanStep (sym told) (record
          { well_formed = taken_too.well_formed; shape = taken_too.shape; stages = taken_too.stages })

pub start_differs : (net : Net) (device : Device) (models : List Model) (b : SeenBench)
    (ps : List Pins) (cs : List SeenCommand)
    → b ≡ record {
      net = net;
      device = device;
      models = models;
      state = power_up (fault_free count_log net device (machines_of models));
    } → ps ≡ pins InReset 0 cs
    → is_any (differing (compares (chip_of b) ps b.state))
    ≡ is_any (differs_of net device (map seen_model models) cs)
start_differs net device models b ps cs is given =
    let c = fault_free count_log net device (machines_of models) in
    ap (λ (x : SeenBench). is_any (differing (compares (chip_of x) ps x.state))) is
    ∙ ap (λ (x : List Pins). is_any (differing (compares c x (power_up c)))) given
    ∙ ap (λ (ms : List Machine). is_any (differing (compares (fault_free count_log net device ms)
    (pins InReset 0 cs) (power_up (fault_free count_log net device ms))))) (machines_are models)
