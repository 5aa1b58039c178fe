use Rattle.std.proofs.Common.{List, ap, ◌∙◌}
use Rattle.instruments.specs.Machine.{Machine, count_log}
use Rattle.instruments.proofs.Machines.{machines_are}
use Rattle.net_bench.specs.Bench.{fault_free, power_up}
use Rattle.net_bench.specs.Board.{SeenBench}
use Rattle.bench_report.specs.Report.{chip_of}
use Rattle.tap_machine.specs.declared.Pins.{Pins}
use Rattle.tap_machine.specs.declared.Stable.TheVariants.{Reset as InReset}
use Rattle.tap_machine.specs.Play.{pins}
use Rattle.instruments.specs.Runners.{machines_of}
use Rattle.svf_notes.specs.Left.{left_scans}
use Rattle.svf_notes.specs.Notes.{played_scans}
use Rattle.svf_notes.specs.Scans.{scans_of}
use Rattle.svf_notes.proofs.playing.Playing.new.Goals as goal

pub returns-clause-scans : goal.returns-clause-scans
unfolding left_scans played_scans
returns-clause-scans c =
    let net = c.args.net.now in
    let device = c.args.device.now in
    let models = c.args.models.now.items in
    let player = c.new-player.result in
    ap (λ (b : SeenBench). scans_of (chip_of b) player.pins b.state) c.in_ok-bench.ensures
    ∙ ap (λ (ps : List Pins). scans_of (fault_free count_log net device (machines_of models)) ps
    (power_up (fault_free count_log net device (machines_of models)))) c.new-player.ensures.pins
    ∙ ap (λ (ms : List Machine). scans_of (fault_free count_log net device ms) (pins InReset 0
    c.args.commands.now) (power_up (fault_free count_log net device ms))) (machines_are models)
