use Rattle.std.proofs.Common.{◌≤◌, ◌-◌}
use Rattle.ij_io.proofs.Fronts.{AddsFront}
use Rattle.net_graph.specs.Named.{bits_from}
use Rattle.direct_report.specs.Report.{lines, reads_on}
use Rattle.direct_report.specs.Seen.{found_all}
use Rattle.direct_report.proofs.reads.put_register_reads.Given as goal

abbrev pub invariant-loop-pos : goal.invariant-loop-pos
invariant-loop-pos g l =
    let found = found_all l.values l.reads in
    record {
      front : AddsFront (g.K.Sink.taken l.fn.k) (g.K.Sink.taken l.k)
          (lines (reads_on found (bits_from l.reg l.pos (l.width - l.pos))))
          (lines (reads_on found (bits_from l.reg 0 l.width)));
      later : g.K.Sink.faults l.fn.k ≤ g.K.Sink.faults l.k;
    }
