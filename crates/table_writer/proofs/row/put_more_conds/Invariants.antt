use Rattle.std.proofs.Common.{◌≤◌, take}
use Rattle.std.specs.List.{flat_map}
use Rattle.ij_io.specs.Bytes.{Adds}
use Rattle.instruments.specs.Seen.{seen_model}
use Rattle.table_writer.specs.Pieces.{next_cond}
use Rattle.table_writer.proofs.row.put_more_conds.Given as goal

abbrev pub invariant-loop-c : goal.invariant-loop-c
invariant-loop-c g l = record {
  so_far : Adds (g.K.Sink.taken l.fn.k) (g.K.Sink.taken l.k)
      (flat_map (next_cond (seen_model l.m)) (take l.c-index l.conds));
  later : g.K.Sink.faults l.fn.k ≤ g.K.Sink.faults l.k;
}
