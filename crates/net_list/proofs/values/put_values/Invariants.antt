use Rattle.std.specs.Prelude.{[], codes}
use Rattle.std.proofs.Common.{◌≤◌, drop}
use Rattle.ij_io.proofs.Fronts.{AddsFront}
use Rattle.net_list.specs.Forms.{items}
use Rattle.net_list.specs.Forms.{tern_text}
use Rattle.net_list.proofs.values.put_values.Given as goal

abbrev pub invariant-loop-value : goal.invariant-loop-value
invariant-loop-value g l = record {
  front : AddsFront (g.K.Sink.taken l.fn.k) (g.K.Sink.taken l.k) (items tern_text (codes "|") l.before
      (drop l.value-index l.values)) (items tern_text (codes "|") [] l.values);
  later : g.K.Sink.faults l.fn.k ≤ g.K.Sink.faults l.k;
}
