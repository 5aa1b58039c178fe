-- The waves of a play, as a VCD file (IEEE 1364-2005, 18.2: four state VCD).
use Rattle.std.specs.Prelude.{ℕ, Bool, true, false, List, [], ◌∷◌, ◌++◌, drop, length, take, Option}
use Rattle.ij_io.specs.Bytes.{AddsPart}
use Rattle.ij_io.specs.Files.{Files}
use Rattle.ij_io.specs.Pieces.{HoldsFront}
use Rattle.instruments.specs.declared.Counts.{Counts}
use Rattle.instruments.specs.Seen.{SeenModel}
use Rattle.net_graph.specs.declared.device.Device.{Device}
use Rattle.net_graph.specs.declared.net.Net.{Net}
use Rattle.svf_writer.specs.SeenCommands.{SeenCommand}
use Rattle.tap_machine.specs.declared.Pins.{Pins}
use Rattle.tap_machine.specs.declared.Stable.TheVariants.{Reset as InReset}
use Rattle.tap_machine.specs.Play.{pins}
use Rattle.net_bench.specs.Bench.{Chip, power_up}
use Rattle.net_bench.specs.Playing.{after_pins}
use Rattle.bench_report.specs.Report.{chip}
use Rattle.net_wave.specs.declared.var.Var.{Var}
use Rattle.net_wave.specs.declared.var.WaveKind.{WaveKind}
use Rattle.net_wave.specs.declared.var.Window.{Window}
use Rattle.net_wave.specs.Header.{header}
use Rattle.net_wave.specs.Moments.{Moment, moments_from, moments_text, untold}
use Rattle.net_wave.specs.Vars.{items, vars}

-- the moments of the clocks in a window of some pins, from power-up
unfoldable pub moments_of : Chip Counts → List SeenModel → List Var → List Pins → Window → List Moment
moments_of c models seen played window =
    moments_from c models seen true window.from (untold (length seen))
    (take window.count (drop window.from played)) (after_pins c (take window.from played) (power_up c))

-- those of a play of commands
abbrev pub moments : WaveKind → Net → Device → List SeenModel → List SeenCommand → Window → List Moment
moments kind net device models commands window =
    moments_of (chip net device models) models (vars kind net models) (pins InReset 0 commands) window

unfoldable pub wave_text : WaveKind → Net → Device → List SeenModel
    → List ℕ → List SeenCommand → Window → List ℕ
wave_text kind net device models top commands window =
    header net device models top (items kind net models)
    ++ moments_text (moments kind net device models commands window)

-- a file holds some first bytes of these old ones with the text after them
abbrev pub HoldsSome : Option Files → List ℕ → Option (List ℕ) → List ℕ → Type 0
HoldsSome files name old text = (held : Option (List ℕ)) × AddsPart old held text × HoldsFront files name held

-- whether there is any
abbrev pub is_any : {A : Type 0} → List A → Bool
is_any [] = false
is_any (x ∷ xs) = true
