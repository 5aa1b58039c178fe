use Rattle.std.proofs.Common.{◌≤◌, map, drop}
use Rattle.ij_io.proofs.Fronts.{AddsFront}
use Rattle.instruments.specs.Runners.{insts_of}
use Rattle.instruments.specs.Seen.{seen_model}
use Rattle.report.specs.Instruments.{instruments_from, instruments_text}
use Rattle.report.proofs.state.put_instruments.Given as goal

abbrev pub invariant-loop-i : goal.invariant-loop-i
invariant-loop-i g l =
    let ms = map seen_model l.models.items in
    let xs = insts_of l.runners in
    record {
      front : AddsFront (g.K.Sink.taken l.fn.k) (g.K.Sink.taken l.k)
          (instruments_from l.net l.i (drop l.i ms) (drop l.i xs)) (instruments_text l.net ms xs);
      later : g.K.Sink.faults l.fn.k ≤ g.K.Sink.faults l.k;
    }
