use Rattle.std.proofs.Common.{ap}
use Rattle.bench_report.specs.Report.{chip_of}
use Rattle.svf_notes.specs.Left.{left_scans}
use Rattle.svf_notes.proofs.Scanning.{scan_left}
use Rattle.svf_notes.proofs.playing.Playing.next.Goals as goal

pub returns-clause-scan : goal.returns-clause-scan
unfolding left_scans
returns-clause-scan c =
    scan_left c.next_scan.result (chip_of c.args.self.now.bench)
    (chip_of c.next_scan.new.bench) c.args.self.now.player.pins c.next_scan.new.player.pins
    c.args.self.now.bench.state c.next_scan.new.bench.state c.next_scan.new.bits.items
    (ap chip_of c.next_scan.ensures.bench) c.next_scan.ensures.scan
