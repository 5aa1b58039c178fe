-- A play on a new bench, and its line.
use Rattle.std.proofs.Common.{◌≡◌, ℕ, List, length, map, refl, ap, sym, ◌∙◌, subst}
use Rattle.bench_report.proofs.Whole.{differs_are}
use Rattle.bench_report.specs.Report.{chip_of, differs_of}
use Rattle.instruments.specs.Machine.{count_log}
use Rattle.instruments.specs.Seen.{SeenModel, seen_model}
use Rattle.instruments.specs.declared.model.Model.{Model}
use Rattle.net_bench.specs.Bench.{fault_free, power_up}
use Rattle.net_bench.specs.Board.{SeenBench}
use Rattle.net_bench.specs.Playing.{compares, differing}
use Rattle.net_graph.specs.declared.device.Device.{Device}
use Rattle.net_graph.specs.declared.net.Net.{Net}
use Rattle.bench_report.specs.MadeReport.{made_report}
use Rattle.report.specs.Totalled.{totals_text}
use Rattle.report.specs.declared.totals.Totals.TheVariants.{Made}
use Rattle.instruments.specs.Runners.{machines_of}
use Rattle.svf_writer.specs.SeenCommands.{SeenCommand}
use Rattle.tap_machine.specs.declared.Pins.{Pins}
use Rattle.tap_machine.specs.declared.Stable.TheVariants.{Reset as InReset}
use Rattle.tap_machine.specs.Play.{pins, scans_in}

pub new_differs : (net : Net) (device : Device) (models : List Model) (b : SeenBench)
    (ps : List Pins) (cs : List SeenCommand) (n : ℕ)
    → b ≡ record {
      net = net;
      device = device;
      models = models;
      state = power_up (fault_free count_log net device (machines_of models));
    } → ps ≡ pins InReset 0 cs
    → n ≡ length (differing (compares (chip_of b) ps b.state))
    → n ≡ length (differs_of net device (map seen_model models) cs)
new_differs net device models b ps cs n is p count =
    let start : b.state ≡ power_up (chip_of b) =
    subst (λ (x : SeenBench). x.state ≡ power_up (chip_of x)) (sym is) refl in
    count
    ∙ ap length (differs_are net models b ps cs (ap (λ (x : SeenBench). x.net) is)
    (ap (λ (x : SeenBench). x.models) is) start p)
    ∙ ap (λ (d : Device). length (differs_of net d (map seen_model models) cs))
    (ap (λ (x : SeenBench). x.device) is)

pub line_is : (net : Net) (device : Device) (models : List SeenModel) (cs : List SeenCommand)
    (groups registers muxes instruments scans clocks differs : ℕ)
    → registers ≡ length net.regs.items → muxes ≡ length net.muxes.items
    → instruments ≡ length net.insts.items → scans ≡ scans_in cs → clocks ≡ length (pins InReset 0 cs)
    → differs ≡ length (differs_of net device models cs)
    → totals_text (Made registers muxes instruments groups scans clocks differs)
    ≡ made_report net device models cs groups
line_is net device models cs groups registers muxes instruments scans clocks differs r m i s c d =
    ap (λ n. totals_text (Made n muxes instruments groups scans clocks differs)) r
    ∙ ap (λ n. totals_text (Made (length net.regs.items) n instruments groups scans clocks differs)) m
    ∙ ap (λ n. totals_text
    (Made (length net.regs.items) (length net.muxes.items) n groups scans clocks differs)) i
    ∙ ap (λ n. totals_text (Made (length net.regs.items) (length net.muxes.items)
    (length net.insts.items) groups n clocks differs)) s
    ∙ ap (λ n. totals_text (Made (length net.regs.items) (length net.muxes.items)
    (length net.insts.items) groups (scans_in cs) n differs)) c
    ∙ ap (λ n. totals_text (Made (length net.regs.items) (length net.muxes.items)
    (length net.insts.items) groups (scans_in cs) (length (pins InReset 0 cs)) n)) d
