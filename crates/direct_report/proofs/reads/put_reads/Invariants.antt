use Rattle.std.proofs.Common.{◌≤◌, ◌-◌, length}
use Rattle.ij_io.proofs.Fronts.{AddsFront}
use Rattle.direct_report.specs.Report.{bits_of_registers, in_order, lines, reads_on}
use Rattle.direct_report.specs.Seen.{found_all}
use Rattle.direct_report.proofs.reads.put_reads.Given as goal

abbrev pub invariant-loop-reg : goal.invariant-loop-reg
invariant-loop-reg g l =
    let found = found_all l.values l.reads in
    record {
      front : AddsFront (g.K.Sink.taken l.fn.k) (g.K.Sink.taken l.k)
          (lines (reads_on found (bits_of_registers l.net l.reg (length l.net.regs.items - l.reg))))
          (lines (in_order l.net found));
      later : g.K.Sink.faults l.fn.k ≤ g.K.Sink.faults l.k;
    }
