use Rattle.std.proofs.Common.{◌≤◌, ◌-◌}
use Rattle.ij_io.proofs.Fronts.{AddsFront}
use Rattle.net_list.specs.Lines.{instrument_line}
use Rattle.net_list.specs.Listing.{lines_from}
use Rattle.net_list.proofs.instrument.put_instruments.Given as goal

abbrev pub invariant-loop-inst : goal.invariant-loop-inst
invariant-loop-inst g l = record {
  front : AddsFront (g.K.Sink.taken l.fn.k) (g.K.Sink.taken l.k)
      (lines_from (instrument_line l.format l.net) l.inst (l.count - l.inst))
      (lines_from (instrument_line l.format l.net) 0 l.count);
  later : g.K.Sink.faults l.fn.k ≤ g.K.Sink.faults l.k;
}
