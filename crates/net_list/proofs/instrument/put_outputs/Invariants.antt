use Rattle.std.proofs.Common.{◌≤◌, drop}
use Rattle.ij_io.proofs.Fronts.{AddsFront}
use Rattle.net_list.specs.Forms.{items}
use Rattle.net_list.specs.Lines.{output_text}
use Rattle.net_list.proofs.instrument.put_outputs.Given as goal

abbrev pub invariant-loop-port : goal.invariant-loop-port
invariant-loop-port g l = record {
  front : AddsFront (g.K.Sink.taken l.fn.k) (g.K.Sink.taken l.k)
      (items (output_text l.format) l.between l.before (drop l.port-index l.ports))
      (items (output_text l.format) l.between l.first l.ports);
  later : g.K.Sink.faults l.fn.k ≤ g.K.Sink.faults l.k;
}
