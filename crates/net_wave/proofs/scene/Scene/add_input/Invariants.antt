use Rattle.std.proofs.Common.{◌≡◌, ◌++◌, ◌-◌, length}
use Rattle.bench_report.specs.Report.{chip_of}
use Rattle.net_wave.specs.Values.{digits, input_bit}
use Rattle.net_wave.proofs.scene.Scene.add_input.Given as goal

abbrev pub invariant-loop-j : goal.invariant-loop-j
invariant-loop-j l =
    let s = l.self.bench.now in
    l.into.items ++ digits (input_bit (chip_of s) s.state l.inst l.port) (length l.bits - l.j)
    ≡ l.fn.into.items ++ digits (input_bit (chip_of s) s.state l.inst l.port) (length l.bits)
