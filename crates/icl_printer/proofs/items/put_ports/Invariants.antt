use Rattle.std.proofs.Common.{◌≤◌}
use Rattle.icl_lexer.specs.Views.{bytes_of}
use Rattle.icl_printer.specs.Canonical.{member_tokens}
use Rattle.icl_printer.proofs.Laid.{PartsLeft}
use Rattle.icl_printer.proofs.items.put_ports.Given as goal

abbrev pub invariant-loop-port : goal.invariant-loop-port
invariant-loop-port g l = record {
  front : PartsLeft member_tokens bytes_of l.ports.items l.port-index
      (g.K.Sink.taken l.fn.k) (g.K.Sink.taken l.k);
  later : g.K.Sink.faults l.fn.k ≤ g.K.Sink.faults l.k;
}
