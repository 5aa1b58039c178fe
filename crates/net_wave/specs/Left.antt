-- What is left of a play that is under way: its moments, as text.
use Rattle.std.specs.Prelude.{◌≡◌, ◌<◌, ◌≤◌, ℕ, ◌*◌, ◌||◌, Bool, true, false, List, ◌∷◌, ◌++◌, decimal, drop}
use Rattle.std.specs.Prelude.{get_or, length, map, take, All}
use Rattle.std.specs.List.{list_any}
use Rattle.ij_bits.specs.Room.{Listed}
use Rattle.bench_report.specs.Report.{chip_of}
use Rattle.instruments.specs.declared.Counts.{Counts}
use Rattle.instruments.specs.Runners.{AreModels}
use Rattle.instruments.specs.Seen.{SeenModel, seen_model}
use Rattle.net_bench.specs.Bench.{State, clock}
use Rattle.net_bench.specs.Playing.{after_pins, compares, differing}
use Rattle.net_graph.specs.Held.{AreHolds}
use Rattle.net_graph.specs.Nets.{IsNet}
use Rattle.tap_machine.specs.declared.Pins.{Pins}
use Rattle.net_wave.specs.declared.playing.Playing.{Playing}
use Rattle.net_wave.specs.declared.scene.Scene.{Scene}
use Rattle.net_wave.specs.declared.var.Var.TheVariants.{Tms}
use Rattle.net_wave.specs.declared.var.Var.{Var}
use Rattle.net_wave.specs.Changes.{WasTold, is_shift, pin_digits, pin_vars}
use Rattle.net_wave.specs.Header.{is_pin}
use Rattle.net_wave.specs.Moments.{counted, falling, moment_text, moments_from, moments_text, next_clock}
use Rattle.net_wave.specs.Moments.{rising}
use Rattle.net_wave.specs.Values.{values}
use Rattle.net_wave.specs.Vars.{IsVar}
use Rattle.net_wave.specs.Wave.{is_any}

-- the digits that were written last
abbrev pub told_of : List (Listed ℕ) → List (List ℕ)
told_of told = map (λ digits. digits.items) told

-- the bench is that of the network and the models, and the shift stages beside it are its own where they are
-- to be shown
pub record IsScene (s : Scene) : Type 0 where
  pub well_formed : IsNet s.net.now
  pub models : AreModels s.net.now s.models.now.items
  pub net : s.bench.now.net ≡ s.net.now
  pub same_models : s.bench.now.models ≡ s.models.now.items
  pub shape : AreHolds s.net.now s.stages.now
  pub stages : s.shifts ≡ true → s.stages.now ≡ s.bench.now.state.stages

-- the models
abbrev pub models_of : Playing → List SeenModel
models_of p = map seen_model p.models.now.items

-- all variables, and the digits of them that were written last
abbrev pub all_vars : Playing → List Var
all_vars p = pin_vars ++ p.vars.items

abbrev pub before_of : Playing → List (List ℕ)
before_of p = pin_digits p.last p.instruction.items ++ told_of p.told.items

-- the same of a play; no variable from the place `pins` on is a pin, after the first clock the values of the
-- clock before were written, and the digits are those of the time
pub record IsPlaying (p : Playing) : Type 0 where
  pub well_formed : IsNet p.net.now
  pub models : AreModels p.net.now p.models.now.items
  pub net : p.bench.net ≡ p.net.now
  pub same_models : p.bench.models ≡ p.models.now.items
  pub shape : AreHolds p.net.now p.stages
  pub stages : p.shifts ≡ true → p.stages ≡ p.bench.state.stages
  pub vars : All (IsVar p.net.now (map seen_model p.models.now.items)) p.vars.items
  pub told : length p.told.items ≡ length p.vars.items
  pub few : p.pins ≤ length p.vars.items
  pub pins : (k : ℕ) → p.pins ≤ k → k < length p.vars.items → is_pin (get_or p.vars.items k Tms) ≡ false
  pub shifts : p.shifts ≡ false → list_any is_shift p.vars.items ≡ false
  pub known : p.first ≡ false
      → WasTold (chip_of p.bench) (models_of p) (all_vars p) (before_of p) p.last p.bench.state
  pub digits : p.digits.items ≡ 35 ∷ decimal (counted (2 * p.clock))

-- the digits of the variables at a clock with some pins

unfoldable pub values_at : Playing → Pins → List (List ℕ)
values_at p q = values (chip_of p.bench) (models_of p) (all_vars p) q p.bench.state

-- the moments of some pins and of the end, from a state on
unfoldable pub text_from : Playing → Bool → ℕ → List (List ℕ) → List Pins → State Counts → List ℕ
text_from p first k before ps s =
    moments_text (moments_from (chip_of p.bench) (models_of p) (all_vars p) first k before ps s)

-- what is left to be written
unfoldable pub left_text : Playing → List ℕ
left_text p = text_from p p.first p.clock (before_of p) (take p.left p.player.pins) p.bench.state

-- the same after this many clocks more
unfoldable pub skipped_text : ℕ → Playing → List ℕ
skipped_text n p =
    text_from p p.first p.clock (before_of p) (take p.left (drop n p.player.pins))
    (after_pins (chip_of p.bench) (take n p.player.pins) p.bench.state)

-- the moment at which a clock begins, and both moments of it
unfoldable pub falling_text : Playing → Pins → List ℕ
falling_text p q = moment_text (falling p.first p.clock (before_of p) (values_at p q))

abbrev pub clock_text : Playing → Pins → List ℕ
clock_text p q = falling_text p q ++ moment_text (rising p.clock)

-- what is left after a clock
unfoldable pub after_text : Playing → Pins → List ℕ
after_text p q =
    text_from p false (next_clock p.clock) (values_at p q) (take p.left p.player.pins)
    (clock (chip_of p.bench) q.tms q.tdi p.bench.state)

-- what was added, with what is left, is what was left before
abbrev pub IsFurther : List ℕ → List ℕ → List ℕ → List ℕ → Type 0
IsFurther before after left_before left_after = (here : List ℕ)
    × (after ≡ before ++ here) × (left_before ≡ here ++ left_after)

-- whether a compare differed so far, or one of those that are left does
unfoldable pub some_differs : Playing → Bool
some_differs p = p.differs || is_any (differing (compares (chip_of p.bench) p.player.pins p.bench.state))

-- the same with a clock before those that are left
unfoldable pub differs_with : Playing → Pins → Bool
differs_with p q =
    p.differs || is_any (differing (compares (chip_of p.bench) (q ∷ p.player.pins) p.bench.state))

-- the next clock can be played: the shift stages beside the bench are its own where they are to be shown
pub record CanStep (p : Playing) : Type 0 where
  pub well_formed : IsNet p.bench.net
  pub shape : AreHolds p.bench.net p.stages
  pub stages : p.shifts ≡ true → p.stages ≡ p.bench.state.stages
