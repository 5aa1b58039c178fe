-- What holds of all waves: their changes, replayed, are the values of the clocks, and no two variables have
-- one code (IEEE 1364-2005, 18.2: value changes, identifier codes).
use Rattle.std.specs.Prelude.{◌≡◌, ◌<◌, ◌≤◌, ℕ, suc, All, codes, ◌+◌, ◌*◌, ◌^◌, ◌==◌, cond, true, List, []}
use Rattle.std.specs.Prelude.{◌∷◌, drop, get_or, length, take}
use Rattle.std.specs.List.{flat_map}
use Rattle.instruments.specs.declared.Counts.{Counts}
use Rattle.instruments.specs.Seen.{SeenModel}
use Rattle.bench_report.specs.Report.{chip}
use Rattle.net_bench.specs.Bench.{Chip, State, power_up}
use Rattle.net_bench.specs.Playing.{after_pins}
use Rattle.tap_machine.specs.declared.Pins.{Pins}
use Rattle.net_graph.specs.declared.device.Device.{Device}
use Rattle.net_graph.specs.declared.net.Net.{Net}
use Rattle.svf_writer.specs.SeenCommands.{SeenCommand}
use Rattle.tap_machine.specs.declared.Stable.TheVariants.{Reset as InReset}
use Rattle.tap_machine.specs.Play.{no_shift, pins}
use Rattle.net_wave.specs.declared.var.Item.{Item}
use Rattle.net_wave.specs.declared.var.Item.TheVariants.{Open, Declare, Close}
use Rattle.net_wave.specs.declared.var.Var.{Var}
use Rattle.net_wave.specs.declared.var.WaveKind.{WaveKind}
use Rattle.net_wave.specs.declared.var.Window.{Window}
use Rattle.net_wave.specs.Codes.{code}
use Rattle.net_wave.specs.Header.{scope_name, shape, var_name}
use Rattle.net_wave.specs.Moments.{Change, Moment, moments_from, moments_text, untold}
use Rattle.net_wave.specs.Names.{NamesWithout}
use Rattle.net_wave.specs.Reader.{Declared, read_declared, read_scopes, read_value}
use Rattle.net_wave.specs.Vars.{items, vars}
use Rattle.net_wave.specs.Wave.{wave_text}
use Rattle.net_wave.specs.Values.{values}
use Rattle.std.specs.Prelude.{false}

-- the digits that were written last of a variable, and those that it had before where none were
abbrev pub last_told : ℕ → List ℕ → List Change → List ℕ
last_told n digits [] = digits
last_told n digits (c ∷ cs) = last_told n (cond (c.number == n) c.digits digits) cs

-- a variable after some moments
abbrev pub replayed : ℕ → List Moment → List ℕ
replayed n moments = last_told n [] (flat_map (λ m. m.changes) moments)

-- After the moment at which clock j of some pins begins, each variable has the value of this clock: that of
-- its pins and of the state before it. After the last clock it is that of the end, where nothing is shifted.
abbrev pub MomentsReplay : Type 0
MomentsReplay =
    (chip : Chip Counts) (models : List SeenModel) (vars : List Var) (ps : List Pins) (s : State Counts)
    (from i j : ℕ) → i < length vars → j ≤ length ps
    → replayed (i + 1)
    (take (2 * j + 1) (moments_from chip models vars true from (untold (length vars)) ps s))
    ≡ get_or (values chip models vars (get_or ps j (no_shift false)) (after_pins chip (take j ps) s)) i []

-- A reader of the text of these moments finds, under the code of a variable and at the time at which clock j
-- begins, exactly the digits of this clock, with the zeros that were left out; so at the end of the last
-- clock. Times that 64 bits hold are kept apart.
abbrev pub MomentsAreRead : Type 0
MomentsAreRead =
    (chip : Chip Counts) (models : List SeenModel) (vars : List Var) (ps : List Pins) (s : State Counts)
    (from i j : ℕ) → i < length vars → length vars < 2 ^ 32
    → j ≤ length ps → 2 * (from + length ps) + 1 < 2 ^ 64
    → let here = get_or
    (values chip models vars (get_or ps j (no_shift false)) (after_pins chip (take j ps) s)) i [] in
    read_value (moments_text (moments_from chip models vars true from (untold (length vars)) ps s))
    (code (i + 1)) (length here) (2 * (from + j)) ≡ here

-- So it does at the time at which TCK rises within clock j: all but TCK are as where the clock began.
abbrev pub HalvesAreRead : Type 0
HalvesAreRead =
    (chip : Chip Counts) (models : List SeenModel) (vars : List Var) (ps : List Pins) (s : State Counts)
    (from i j : ℕ) → i < length vars → length vars < 2 ^ 32
    → j < length ps → 2 * (from + length ps) + 1 < 2 ^ 64
    → let here = get_or
    (values chip models vars (get_or ps j (no_shift false)) (after_pins chip (take j ps) s)) i [] in
    read_value (moments_text (moments_from chip models vars true from (untold (length vars)) ps s))
    (code (i + 1)) (length here) (2 * (from + j) + 1) ≡ here

-- Under the code of TCK it finds 0 (48) where a clock begins, and at the end of the last one, and 1 (49) at
-- the time between.
abbrev pub TckIsRead : Type 0
TckIsRead =
    (chip : Chip Counts) (models : List SeenModel) (vars : List Var) (ps : List Pins) (s : State Counts)
    (from : ℕ) → length vars < 2 ^ 32 → 2 * (from + length ps) + 1 < 2 ^ 64
    → let text = moments_text (moments_from chip models vars true from (untold (length vars)) ps s) in
    ((j : ℕ) → j ≤ length ps → read_value text (code 0) 1 (2 * (from + j)) ≡ 48 ∷ [])
    × ((j : ℕ) → j < length ps → read_value text (code 0) 1 (2 * (from + j) + 1) ≡ 49 ∷ [])

-- what a reader finds in a text: at the times of both halves of a clock each variable, and TCK, and so at the
-- end of the last clock
pub record Tells (text : List ℕ) (chip : Chip Counts) (models : List SeenModel) (vars : List Var)
    (ps : List Pins) (s : State Counts) (from : ℕ) : Type 0 where
  pub starts : (i j : ℕ) → i < length vars → j ≤ length ps
      → let here = get_or
      (values chip models vars (get_or ps j (no_shift false)) (after_pins chip (take j ps) s)) i [] in
      read_value text (code (i + 1)) (length here) (2 * (from + j)) ≡ here
  pub halves : (i j : ℕ) → i < length vars → j < length ps
      → let here = get_or
      (values chip models vars (get_or ps j (no_shift false)) (after_pins chip (take j ps) s)) i [] in
      read_value text (code (i + 1)) (length here) (2 * (from + j) + 1) ≡ here
  pub tck_low : (j : ℕ) → j ≤ length ps → read_value text (code 0) 1 (2 * (from + j)) ≡ 48 ∷ []
  pub tck_high : (j : ℕ) → j < length ps → read_value text (code 0) 1 (2 * (from + j) + 1) ≡ 49 ∷ []

-- All this is found in the text of a file with its declarations, where no name in them has a line feed (10).
abbrev pub WavesAreRead : Type 0
WavesAreRead =
    (kind : WaveKind) (net : Net) (device : Device) (models : List SeenModel) (top : List ℕ)
    (commands : List SeenCommand) (window : Window) → NamesWithout 10 kind net models top
    → let it = chip net device models in
    let seen = vars kind net models in
    let played = pins InReset 0 commands in
    let shown = take window.count (drop window.from played) in
    length seen < 2 ^ 32 → 2 * (window.from + length shown) + 1 < 2 ^ 64
    → Tells (wave_text kind net device models top commands window) it models seen shown
    (after_pins it (take window.from played) (power_up it)) window.from

-- variables, as they are declared, by their numbers from one on
abbrev pub declared_from : Net → Device → List SeenModel → ℕ → List Var → List Declared
declared_from net device models n [] = []
declared_from net device models n (v ∷ vs) =
    record { code = code n; width = (shape net device models v).width; name = var_name net models v }
    ∷ declared_from net device models (suc n) vs

-- A reader of declarations finds in this text TCK and then each variable, in their order: its code, its width
-- and its name, where no name has a line feed or a blank (32) and 64 bits hold each width.
abbrev pub DeclarationsAreRead : Type 0
DeclarationsAreRead =
    (kind : WaveKind) (net : Net) (device : Device) (models : List SeenModel) (top : List ℕ)
    (commands : List SeenCommand) (window : Window)
    → NamesWithout 10 kind net models top → NamesWithout 32 kind net models top
    → All (λ v. (shape net device models v).width < 2 ^ 64) (vars kind net models)
    → read_declared (wave_text kind net device models top commands window)
    ≡ record { code = code 0; width = 1; name = codes "TCK" }
    ∷ declared_from net device models 1 (vars kind net models)

-- the scopes in which some items declare variables, where these are open before, the innermost first
abbrev pub scopes_from : Net → List (List ℕ) → List Item → List (List (List ℕ))
scopes_from net scopes [] = []
scopes_from net scopes (Open s ∷ is) = scopes_from net (scope_name net s ∷ scopes) is
scopes_from net scopes (Declare v ∷ is) = scopes ∷ scopes_from net scopes is
scopes_from net scopes (Close ∷ is) = scopes_from net (drop 1 scopes) is

-- A reader of scopes finds each of these variables in those in which the items declare it, and TCK in that of
-- the top, under the same premise of names.
abbrev pub ScopesAreRead : Type 0
ScopesAreRead =
    (kind : WaveKind) (net : Net) (device : Device) (models : List SeenModel) (top : List ℕ)
    (commands : List SeenCommand) (window : Window)
    → NamesWithout 10 kind net models top → NamesWithout 32 kind net models top
    → read_scopes (wave_text kind net device models top commands window)
    ≡ (top ∷ []) ∷ scopes_from net (top ∷ []) (items kind net models)

-- Numbers of 32 bits have codes of their own.
abbrev pub CodesDiffer : Type 0
CodesDiffer = (n m : ℕ) → n < 2 ^ 32 → m < 2 ^ 32 → code n ≡ code m → n ≡ m
