use Rattle.std.proofs.Common.{◌≤◌, drop}
use Rattle.ij_io.proofs.Fronts.{AddsFront}
use Rattle.net_list.specs.Forms.{items}
use Rattle.net_list.specs.Lines.{input_text}
use Rattle.net_list.proofs.instrument.put_inputs.Given as goal

abbrev pub invariant-loop-port : goal.invariant-loop-port
invariant-loop-port g l = record {
  front : AddsFront (g.K.Sink.taken l.fn.k) (g.K.Sink.taken l.k)
      (items (input_text l.format l.net) l.between l.before (drop l.port-index l.ports))
      (items (input_text l.format l.net) l.between l.first l.ports);
  later : g.K.Sink.faults l.fn.k ≤ g.K.Sink.faults l.k;
}
