-- The moments of a wave at which something changes, and what changes there (IEEE 1364-2005, 18.2.1 to 18.2.3:
-- simulation times and value changes). Clock k is the time 2k, at which TCK falls, and the time 2k + 1, at
-- which it rises.
use Rattle.std.specs.Prelude.{ℕ, suc, ◌+◌, ◌*◌, ◌-◌, ◌^◌, ◌==◌, ◌||◌, min, not, Bool, false, cond, List, []}
use Rattle.std.specs.Prelude.{◌∷◌, ◌++◌, codes, decimal, get_or, length}
use Rattle.std.specs.List.{flat_map}
use Rattle.std.specs.Str.{bytes_eq}
use Rattle.instruments.specs.declared.Counts.{Counts}
use Rattle.instruments.specs.Seen.{SeenModel}
use Rattle.net_bench.specs.Bench.{Chip, State, clock}
use Rattle.tap_machine.specs.declared.Pins.{Pins}
use Rattle.tap_machine.specs.Play.{no_shift}
use Rattle.net_wave.specs.declared.var.Var.{Var}
use Rattle.net_wave.specs.Codes.{code}
use Rattle.net_wave.specs.Values.{values}
use Rattle.net_wave.specs.Vars.{up_to}

-- a variable, by its number, has these digits from now on
pub record Change : Type 0 where
  pub number : ℕ
  pub digits : List ℕ

-- a time, and what changes; the first moment tells all variables
pub record Moment : Type 0 where
  pub time : ℕ
  pub first : Bool
  pub changes : List Change

-- ---- changes

-- TCK has the number 0, and is 0 (48) or 1 (49)
abbrev pub falls : Change
falls = record { number = 0; digits = 48 ∷ [] }

abbrev pub rises : Change
rises = record { number = 0; digits = 49 ∷ [] }

-- a variable, where it is written first or has other digits than before
abbrev pub change_if : Bool → ℕ → List ℕ → List ℕ → List Change
change_if first number before now =
    cond (first || not (bytes_eq before now)) (record { number = number; digits = now } ∷ []) []

-- the variable at a place of the list
abbrev pub change_at : Bool → List (List ℕ) → List (List ℕ) → ℕ → List Change
change_at first before now i = change_if first (suc i) (get_or before i []) (get_or now i [])

abbrev pub changes : Bool → List (List ℕ) → List (List ℕ) → List Change
changes first before now = up_to (change_at first before now) (length now)

-- before the first moment nothing is written of any variable
abbrev pub nothing : ℕ → List (List ℕ)
nothing i = [] ∷ []

abbrev pub untold : ℕ → List (List ℕ)
untold count = up_to nothing count

-- ---- moments

-- clocks are counted up to the greatest number of 64 bits
abbrev pub counted : ℕ → ℕ
counted n = min n (2 ^ 64 - 1)

abbrev pub next_clock : ℕ → ℕ
next_clock k = counted (k + 1)

abbrev pub falling : Bool → ℕ → List (List ℕ) → List (List ℕ) → Moment
falling first k before now =
    record { time = 2 * k; first = first; changes = falls ∷ changes first before now }

abbrev pub rising : ℕ → Moment
rising k = record { time = 2 * k + 1; first = false; changes = rises ∷ [] }

module _ (chip : Chip Counts) (models : List SeenModel) (vars : List Var) where
  -- the clocks of some pins, of which the next has number k, and the moment after the last of them, at which
  -- nothing is shifted. Both halves of a clock show the pins of the clock and the state before it
  abbrev pub moments_from : Bool → ℕ → List (List ℕ) → List Pins → State Counts → List Moment
  moments_from first k before [] s = falling first k before (values chip models vars (no_shift false) s) ∷ []
  moments_from first k before (p ∷ ps) s =
      let now = values chip models vars p s in
      falling first k before now ∷ rising k
      ∷ moments_from false (next_clock k) now ps (clock chip p.tms p.tdi s)

-- ---- text

-- without zeros (48) at the left; the last digit stays
abbrev pub trimmed : List ℕ → List ℕ
trimmed [] = []
trimmed (b ∷ []) = b ∷ []
trimmed (b ∷ c ∷ cs) = cond (b == 48) (trimmed (c ∷ cs)) (b ∷ c ∷ cs)

-- one bit: its digit; more: b, the digits and a blank
abbrev pub digits_text : List ℕ → List ℕ
digits_text digits = cond (length digits == 1) digits (codes "b" ++ (trimmed digits ++ codes " "))

abbrev pub change_text : Change → List ℕ
change_text c = digits_text c.digits ++ (code c.number ++ codes "\n")

abbrev pub time_text : ℕ → List ℕ
time_text t = codes "#" ++ (decimal (counted t) ++ codes "\n")

abbrev pub moment_text : Moment → List ℕ
moment_text m =
    time_text m.time ++ (cond m.first (codes "$dumpvars\n") []
    ++ (flat_map change_text m.changes ++ cond m.first (codes "$end\n") []))

abbrev pub moments_text : List Moment → List ℕ
moments_text moments = flat_map moment_text moments
