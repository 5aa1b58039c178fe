-- The declarations of a wave give each variable the number of digits that its value has at each clock of each
-- play from power-up.
use Rattle.std.specs.Prelude.{◌≡◌, List, length}
use Rattle.bench_report.specs.Report.{chip}
use Rattle.instruments.specs.Seen.{SeenModel}
use Rattle.net_bench.specs.Bench.{power_up}
use Rattle.net_bench.specs.Playing.{after_pins}
use Rattle.net_graph.specs.declared.device.Device.{Device}
use Rattle.net_graph.specs.declared.net.Net.{Net}
use Rattle.net_graph.specs.Nets.{IsNet}
use Rattle.tap_machine.specs.declared.Pins.{Pins}
use Rattle.net_wave.specs.declared.var.Var.{Var}
use Rattle.net_wave.specs.Header.{shape}
use Rattle.net_wave.specs.Values.{value}

abbrev pub WidthsAgree : Type 0
WidthsAgree =
    (net : Net) (device : Device) (models : List SeenModel) (v : Var) (played : List Pins) (p : Pins)
    → IsNet net
    → let it = chip net device models in
    length (value it models v p (after_pins it played (power_up it))) ≡ (shape net device models v).width
