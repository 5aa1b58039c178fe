-- What the update stages hold before a scan of a play, and at its end (Serial Vector Format, revision E: SIR,
-- SDR; IEEE 1687-2014, hardware rules: update).
use Rattle.std.specs.Prelude.{ℕ, suc, ◌==◌, cond, List, [], ◌∷◌, Option, None, Some}
use Rattle.instruments.specs.declared.Counts.{Counts}
use Rattle.instruments.specs.Seen.{SeenModel}
use Rattle.net_graph.specs.declared.device.Device.{Device}
use Rattle.net_graph.specs.declared.net.Net.{Net}
use Rattle.net_graph.specs.Signals.{Holds}
use Rattle.svf_writer.specs.SeenCommands.{SeenCommand}
use Rattle.tap_machine.specs.declared.Pins.{Pins}
use Rattle.tap_machine.specs.declared.Stable.TheVariants.{Reset as InReset}
use Rattle.tap_machine.specs.Play.{pins, scans_in}
use Rattle.net_bench.specs.Bench.{Chip, State, clock, power_up}
use Rattle.bench_report.specs.Report.{chip}

-- before the first bit of a scan, by its number, or after the last clock where the number is `end`
abbrev pub held_at : Chip Counts → ℕ → ℕ → List Pins → State Counts → Option Holds
held_at c scan end [] s = cond (scan == end) (Some s.holds) None
held_at c scan end (p ∷ ps) s =
    cond (p.scan == scan) (Some s.holds) (held_at c scan end ps (clock c p.tms p.tdi s))

-- scans are counted from 1, in a play of commands from power-up; one more than there are asks for the end
unfoldable pub holds_before : Net → Device → List SeenModel → List SeenCommand → ℕ → Option Holds
holds_before net device models commands scan =
    let c = chip net device models in
    cond (scan == 0) None (held_at c scan (suc (scans_in commands)) (pins InReset 0 commands) (power_up c))
