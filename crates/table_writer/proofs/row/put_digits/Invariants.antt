use Rattle.std.proofs.Common.{◌≤◌, ◌-◌}
use Rattle.ij_io.proofs.Fronts.{AddsFront}
use Rattle.ij_bits.specs.BitLists.{bits_of}
use Rattle.bench_file.specs.Written.{digits}
use Rattle.table_writer.proofs.row.put_digits.Given as goal

abbrev pub invariant-loop-j : goal.invariant-loop-j
invariant-loop-j g l = record {
  front : AddsFront (g.K.Sink.taken l.fn.k) (g.K.Sink.taken l.k) (digits (bits_of (l.width - l.j) l.value)
      (bits_of (l.width - l.j) l.care)) (digits (bits_of l.width l.value) (bits_of l.width l.care));
  later : g.K.Sink.faults l.fn.k ≤ g.K.Sink.faults l.k;
}
