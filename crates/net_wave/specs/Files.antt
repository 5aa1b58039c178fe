-- What a reader of value change dumps finds in the text of a file, and in this text alone: which variables
-- there are, in which scopes they stand, and the digits of each at each time, of which it has as many as the
-- variable is declared with.
use Rattle.std.specs.Prelude.{◌≡◌, ◌≢◌, ◌<◌, ◌≤◌, ◌+◌, ◌*◌, ◌^◌, ℕ, All, true, false, codes, cond, List, []}
use Rattle.std.specs.Prelude.{◌∷◌, drop, get_or, length, map, take}
use Rattle.std.specs.Str.{bytes_eq}
use Rattle.bench_report.specs.Report.{chip}
use Rattle.instruments.specs.declared.Counts.{Counts}
use Rattle.instruments.specs.Models.{IsModel}
use Rattle.instruments.specs.Seen.{SeenModel}
use Rattle.net_bench.specs.Bench.{Chip, State, power_up}
use Rattle.net_bench.specs.Playing.{after_pins}
use Rattle.net_graph.specs.declared.device.Device.{Device}
use Rattle.net_graph.specs.declared.net.Net.{Net}
use Rattle.net_graph.specs.Nets.{IsNet}
use Rattle.svf_writer.specs.SeenCommands.{SeenCommand}
use Rattle.tap_machine.specs.declared.Pins.{Pins}
use Rattle.tap_machine.specs.declared.Stable.TheVariants.{Reset as InReset}
use Rattle.tap_machine.specs.Play.{no_shift, pins}
use Rattle.net_wave.specs.declared.var.Var.{Var}
use Rattle.net_wave.specs.declared.var.WaveKind.{WaveKind}
use Rattle.net_wave.specs.declared.var.Window.{Window}
use Rattle.net_wave.specs.Codes.{code}
use Rattle.net_wave.specs.Laws.{declared_from, scopes_from}
use Rattle.net_wave.specs.Reader.{Declared, read_declared, read_scopes, read_value}
use Rattle.net_wave.specs.Scopes.{IsPreorder, scopes_of}
use Rattle.net_wave.specs.Values.{values}
use Rattle.net_wave.specs.Vars.{shows_chip_state, items, vars}
use Rattle.net_wave.specs.Wave.{wave_text}

-- ---- the reader

-- how many bits the variable of a code is declared with, 0 where none is
abbrev pub width_in : List Declared → List ℕ → ℕ
width_in [] code = 0
width_in (d ∷ ds) code = cond (bytes_eq d.code code) d.width (width_in ds code)

-- the digits of the variable of a code at a time
abbrev pub read_variable : List ℕ → List ℕ → ℕ → List ℕ
read_variable text code time = read_value text code (width_in (read_declared text) code) time

-- ---- names

-- a name without line feeds (10) and blanks (32)
abbrev pub IsWord : List ℕ → Type 0
IsWord name = All (λ x. (x ≢ 10) × (x ≢ 32)) name

-- The names that can be anything: that of the top, and where a wave shows them those of ports and words. All
-- others are names of ICL.
pub record FreeNamesAreWords (kind : WaveKind) (net : Net)
    (models : List SeenModel) (top : List ℕ) : Type 0 where
  pub outermost : IsWord top
  pub inputs : shows_chip_state kind ≡ true
      → All (λ inst. All (λ port. IsWord port.name.items) inst.ins.items) net.insts.items
  pub outputs : shows_chip_state kind ≡ true
      → All (λ inst. All (λ port. IsWord port.name.items) inst.outs.items) net.insts.items
  pub words : shows_chip_state kind ≡ true → All (λ m. All (λ word. IsWord word.name) m.words) models

-- ---- files

-- how wide each variable is, what it is at the times of both halves of a clock, TCK, and so at the end of the
-- last clock
pub record TellsAll (text : List ℕ) (chip : Chip Counts) (models : List SeenModel) (vars : List Var)
    (ps : List Pins) (s : State Counts) (from : ℕ) : Type 0 where
  pub widths : (i j : ℕ) → i < length vars → j ≤ length ps
      → width_in (read_declared text) (code (i + 1)) ≡ length (get_or
      (values chip models vars (get_or ps j (no_shift false)) (after_pins chip (take j ps) s)) i [])
  pub starts : (i j : ℕ) → i < length vars → j ≤ length ps
      → read_variable text (code (i + 1)) (2 * (from + j)) ≡ get_or
      (values chip models vars (get_or ps j (no_shift false)) (after_pins chip (take j ps) s)) i []
  pub halves : (i j : ℕ) → i < length vars → j < length ps
      → read_variable text (code (i + 1)) (2 * (from + j) + 1) ≡ get_or
      (values chip models vars (get_or ps j (no_shift false)) (after_pins chip (take j ps) s)) i []
  pub tck_low : (j : ℕ) → j ≤ length ps → read_variable text (code 0) (2 * (from + j)) ≡ 48 ∷ []
  pub tck_high : (j : ℕ) → j < length ps → read_variable text (code 0) (2 * (from + j) + 1) ≡ 49 ∷ []

pub record IsRead (kind : WaveKind) (net : Net) (device : Device) (models : List SeenModel) (top : List ℕ)
    (commands : List SeenCommand) (window : Window) : Type 0 where
  pub declared : read_declared (wave_text kind net device models top commands window)
      ≡ record { code = code 0; width = 1; name = codes "TCK" }
      ∷ declared_from net device models 1 (vars kind net models)
  pub scopes : read_scopes (wave_text kind net device models top commands window)
      ≡ (top ∷ []) ∷ scopes_from net (top ∷ []) (items kind net models)
  pub paths : IsPreorder net → read_scopes (wave_text kind net device models top commands window)
      ≡ (top ∷ []) ∷ map (scopes_of net top) (vars kind net models)
  pub values : let it = chip net device models in
      let played = pins InReset 0 commands in
      TellsAll (wave_text kind net device models top commands window) it models (vars kind net models)
      (take window.count (drop window.from played))
      (after_pins it (take window.from played) (power_up it)) window.from

-- All this is found for a well formed network with a model for each instrument, where 64 bits hold the length
-- of the instruction register and the times.
abbrev pub FilesAreRead : Type 0
FilesAreRead =
    (kind : WaveKind) (net : Net) (device : Device) (models : List SeenModel) (top : List ℕ)
    (commands : List SeenCommand) (window : Window) → IsNet net → All IsModel models
    → length models ≡ length net.insts.items
    → device.ir < 2 ^ 64 → FreeNamesAreWords kind net models top → 2
    * (window.from + length (take window.count (drop window.from (pins InReset 0 commands)))) + 1 < 2 ^ 64
    → IsRead kind net device models top commands window
