use Rattle.std.proofs.Common.{◌≡◌, ◌++◌, ◌-◌}
use Rattle.bench_report.specs.Report.{chip_of}
use Rattle.instruments.specs.OnNetwork.{outputs}
use Rattle.net_wave.specs.Values.{digits}
use Rattle.net_wave.proofs.scene.Scene.add_output.Given as goal

abbrev pub invariant-loop-j : goal.invariant-loop-j
invariant-loop-j l =
    let s = l.self.bench.now in
    let at = outputs (chip_of s).machines s.state.insts l.inst l.port in
    l.into.items ++ digits at (l.width - l.j) ≡ l.fn.into.items ++ digits at l.width
