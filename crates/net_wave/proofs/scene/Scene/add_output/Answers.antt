use Rattle.std.proofs.Common.{◌++◌, ◌-◌, refl}
use Rattle.bench_report.specs.Report.{chip_of}
use Rattle.instruments.specs.OnNetwork.{outputs}
use Rattle.net_wave.specs.Values.{digits}
use Rattle.net_wave.proofs.DigitSteps.{digits_next}
use Rattle.net_wave.proofs.scene.Scene.add_output.Goals as goal

pub loop-j-preserved : goal.loop-j-preserved
loop-j-preserved c =
    let b = c.args.self.now.bench.now in
    let at = outputs (chip_of b).machines b.state.insts c.args.inst c.args.port in
    let w = c.output_at.result.now.width in
    digits_next at (c.args.into.now.items ++ digits at w) c.loop-j.into.items c.add_digit.new.into.items w
    c.loop-j.j (w - 1 - c.loop-j.j) c.output_bit.result c.loop-j-test.true refl c.output_bit.ensures
    c.in_ok-add_digit.ensures c.loop-j.invariant
