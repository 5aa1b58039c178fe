use Rattle.std.proofs.Common.{◌≤◌, ◌-◌}
use Rattle.ij_bits.specs.BitLists.{bits_of}
use Rattle.ij_io.proofs.Fronts.{AddsFront}
use Rattle.svf_writer.specs.Written.{hex_lines, hex_text}
use Rattle.svf_writer.proofs.opcode.put_opcode.Given as goal

abbrev pub invariant-loop-j : goal.invariant-loop-j
invariant-loop-j g l = record {
  front : AddsFront (g.K.Sink.taken l.fn.k) (g.K.Sink.taken l.k)
      (hex_lines (bits_of l.width l.n) (l.digits - l.j) l.j) (hex_text (bits_of l.width l.n));
  later : g.K.Sink.faults l.fn.k ≤ g.K.Sink.faults l.k;
}
