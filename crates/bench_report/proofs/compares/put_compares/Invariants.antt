use Rattle.std.proofs.Common.{◌≡◌, ◌≤◌, ◌+◌, length}
use Rattle.ij_io.proofs.Fronts.{AddsFront}
use Rattle.net_bench.specs.Playing.{after_pins, compares, differing}
use Rattle.bench_report.specs.Report.{Names, chip_of, named_lines}
use Rattle.bench_report.proofs.compares.put_compares.Given as goal

abbrev pub invariant-loop-played : goal.invariant-loop-played
invariant-loop-played g l =
    let chip = chip_of l.fn.bench in
    let left = differing (compares chip l.player.pins l.bench.state) in
    let all = differing (compares chip l.fn.player.pins l.fn.bench.state) in
    record {
      same : l.bench ≡ record l.fn.bench { state = l.bench.state };
      after : after_pins chip l.player.pins l.bench.state ≡ after_pins chip l.fn.player.pins l.fn.bench.state;
      front : (ns : Names) → g.N.ReadNames.AreNames l.fn.names ns
          → AddsFront (g.K.Sink.taken l.fn.k) (g.K.Sink.taken l.k) (named_lines ns left) (named_lines ns all);
      names : (ns : Names) → g.N.ReadNames.AreNames l.fn.names ns → g.N.ReadNames.AreNames l.names ns;
      clocks : l.clocks + length l.player.pins ≡ length l.fn.player.pins;
      differs : l.differs + length left ≡ length all;
      later : g.K.Sink.faults l.fn.k ≤ g.K.Sink.faults l.k;
    }

abbrev pub decreases-loop-played : goal.decreases-loop-played
decreases-loop-played g l = length l.player.pins
