use Rattle.std.proofs.Common.{◌≤◌, ◌-◌}
use Rattle.ij_io.proofs.Fronts.{AddsFront}
use Rattle.report.specs.Instruments.{entries_from}
use Rattle.report.proofs.instrument.put_entries.Given as goal

abbrev pub invariant-loop-i : goal.invariant-loop-i
invariant-loop-i g l =
    let d = l.memory in
    record {
      front : AddsFront (g.K.Sink.taken l.fn.k) (g.K.Sink.taken l.k)
          (entries_from d.name.items d.width l.machine.memory l.i (d.depth - l.i))
          (entries_from d.name.items d.width l.machine.memory 0 d.depth);
      later : g.K.Sink.faults l.fn.k ≤ g.K.Sink.faults l.k;
    }
