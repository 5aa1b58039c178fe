use Rattle.std.proofs.Common.{drop}
use Rattle.net_graph.specs.Marks.{HasMark}
use Rattle.net_graph.specs.declared.net.BitId.{BitId}
use Rattle.direct_report.proofs.Setting.{AreLeft}
use Rattle.direct_report.proofs.marking.unmark_reads.Given as goal

abbrev pub invariant-loop-read : goal.invariant-loop-read
invariant-loop-read l =
    record {
      left : AreLeft (drop l.read-index l.reads) l.marks;
      kept : (b : BitId) → HasMark l.fn.marks b → HasMark l.marks b;
    }
