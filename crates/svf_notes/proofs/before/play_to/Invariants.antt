use Rattle.std.proofs.Common.{◌≡◌, length}
use Rattle.bench_report.specs.Report.{chip_of}
use Rattle.svf_notes.specs.Before.{held_at}
use Rattle.svf_notes.proofs.before.play_to.Given as goal

abbrev pub invariant-loop-pins : goal.invariant-loop-pins
invariant-loop-pins l =
    let chip = chip_of l.fn.bench in
    record {
      same : l.bench ≡ record l.fn.bench { state = l.bench.state };
      left : held_at chip l.scan l.end l.player.pins l.bench.state
          ≡ held_at chip l.scan l.end l.fn.player.pins l.fn.bench.state;
    }

abbrev pub decreases-loop-pins : goal.decreases-loop-pins
decreases-loop-pins l = length l.player.pins
