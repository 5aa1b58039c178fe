use Rattle.std.specs.Prelude.{[]}
use Rattle.std.proofs.Common.{◌≤◌, drop}
use Rattle.ij_io.proofs.Fronts.{AddsFront}
use Rattle.net_list.specs.Forms.{items}
use Rattle.net_list.specs.Lines.{row_text}
use Rattle.net_list.proofs.mux.put_row_list.Given as goal

abbrev pub invariant-loop-row : goal.invariant-loop-row
invariant-loop-row g l = record {
  front : AddsFront (g.K.Sink.taken l.fn.k) (g.K.Sink.taken l.k)
      (items (row_text l.format l.net l.mux) l.between l.before (drop l.row-index l.rows))
      (items (row_text l.format l.net l.mux) l.between [] l.rows);
  later : g.K.Sink.faults l.fn.k ≤ g.K.Sink.faults l.k;
}
