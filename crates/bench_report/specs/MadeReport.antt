-- What is printed of a made design that was compiled and played.
use Rattle.std.specs.Prelude.{ℕ, List, length}
use Rattle.bench_report.specs.Report.{differs_of}
use Rattle.instruments.specs.Seen.{SeenModel}
use Rattle.net_graph.specs.declared.device.Device.{Device}
use Rattle.net_graph.specs.declared.net.Net.{Net}
use Rattle.report.specs.Totalled.{totals_text}
use Rattle.report.specs.declared.totals.Totals.TheVariants.{Made}
use Rattle.svf_writer.specs.SeenCommands.{SeenCommand}
use Rattle.tap_machine.specs.declared.Stable.TheVariants.{Reset as InReset}
use Rattle.tap_machine.specs.Play.{pins, scans_in}

-- one line: what the network has, the groups of its procedure, and what a play from power-up counts
abbrev pub made_report : Net → Device → List SeenModel → List SeenCommand → ℕ → List ℕ
made_report net device models commands groups =
    totals_text
    (Made (length net.regs.items) (length net.muxes.items) (length net.insts.items) groups (scans_in commands)
    (length (pins InReset 0 commands)) (length (differs_of net device models commands)))
