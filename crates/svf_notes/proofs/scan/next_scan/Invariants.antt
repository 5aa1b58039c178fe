-- the bits so far stand before those of the first scan that is left
use Rattle.std.proofs.Common.{◌≡◌, length}
use Rattle.bench_report.specs.Report.{chip_of}
use Rattle.svf_notes.specs.Scans.{scans_of}
use Rattle.svf_notes.proofs.Scanning.{led}
use Rattle.svf_notes.proofs.scan.next_scan.Given as goal

abbrev pub invariant-loop-played : goal.invariant-loop-played
invariant-loop-played l =
    let chip = chip_of l.fn.bench in
    record {
      same : l.bench ≡ record l.fn.bench { state = l.bench.state };
      left : led l.bits.items (scans_of chip l.player.pins l.bench.state)
          ≡ scans_of chip l.fn.player.pins l.fn.bench.state;
    }

abbrev pub decreases-loop-played : goal.decreases-loop-played
decreases-loop-played l = length l.player.pins
