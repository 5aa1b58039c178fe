use Rattle.std.proofs.Common.{◌≡◌, ◌+◌, length}
use Rattle.bench_report.specs.Report.{chip_of}
use Rattle.net_bench.specs.Playing.{compares, differing}
use Rattle.bench_report.proofs.made_play.count_play.Given as goal

abbrev pub invariant-loop-played : goal.invariant-loop-played
invariant-loop-played l =
    let chip = chip_of l.fn.bench in
    let left = differing (compares chip l.player.pins l.bench.state) in
    let all = differing (compares chip l.fn.player.pins l.fn.bench.state) in
    record {
      same : l.bench ≡ record l.fn.bench { state = l.bench.state };
      clocks : l.clocks + length l.player.pins ≡ length l.fn.player.pins;
      differs : l.differs + length left ≡ length all;
    }

abbrev pub decreases-loop-played : goal.decreases-loop-played
decreases-loop-played l = length l.player.pins
