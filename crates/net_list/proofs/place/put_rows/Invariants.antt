use Rattle.std.proofs.Common.{◌≤◌, drop}
use Rattle.ij_io.proofs.Fronts.{AddsFront}
use Rattle.net_list.specs.Forms.{items}
use Rattle.net_list.specs.Lines.{branch_text}
use Rattle.net_list.proofs.place.put_rows.Given as goal

abbrev pub invariant-loop-branch : goal.invariant-loop-branch
invariant-loop-branch g l = record {
  front : AddsFront (g.K.Sink.taken l.fn.k) (g.K.Sink.taken l.k)
      (items (branch_text l.format l.net) l.between l.before (drop l.branch-index l.place))
      (items (branch_text l.format l.net) l.between l.first l.place);
  later : g.K.Sink.faults l.fn.k ≤ g.K.Sink.faults l.k;
}
