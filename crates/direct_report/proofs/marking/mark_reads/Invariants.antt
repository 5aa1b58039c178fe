use Rattle.std.proofs.Common.{take}
use Rattle.net_graph.specs.Marks.{HasMark}
use Rattle.net_graph.specs.declared.net.BitId.{BitId}
use Rattle.direct_report.specs.Marked.{AreMarked}
use Rattle.direct_report.proofs.marking.mark_reads.Given as goal

abbrev pub invariant-loop-i : goal.invariant-loop-i
invariant-loop-i l =
    record {
      marked : AreMarked (take l.i l.reads) l.marks;
      kept : (b : BitId) → HasMark l.fn.marks b → HasMark l.marks b;
    }
