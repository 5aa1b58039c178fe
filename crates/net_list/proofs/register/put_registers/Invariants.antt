use Rattle.std.proofs.Common.{◌≤◌, ◌-◌}
use Rattle.ij_io.proofs.Fronts.{AddsFront}
use Rattle.net_list.specs.Lines.{register_line}
use Rattle.net_list.specs.Listing.{lines_from}
use Rattle.net_list.proofs.register.put_registers.Given as goal

abbrev pub invariant-loop-reg : goal.invariant-loop-reg
invariant-loop-reg g l = record {
  front : AddsFront (g.K.Sink.taken l.fn.k) (g.K.Sink.taken l.k)
      (lines_from (register_line l.format l.net l.tree) l.reg (l.count - l.reg))
      (lines_from (register_line l.format l.net l.tree) 0 l.count);
  later : g.K.Sink.faults l.fn.k ≤ g.K.Sink.faults l.k;
}
