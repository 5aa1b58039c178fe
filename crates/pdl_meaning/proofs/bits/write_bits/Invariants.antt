-- What is left to write gives what all writes give, and each register keeps its width.
use Rattle.std.proofs.Common.{◌≡◌, length, drop}
use Rattle.std.specs.Prelude.{map}
use Rattle.net_graph.specs.Writes.{write_all}
use Rattle.pdl_meaning.proofs.bits.write_bits.Given as goal

abbrev pub invariant-loop-w : goal.invariant-loop-w
invariant-loop-w l =
    record {
      rest : write_all l.holds (drop l.w-index l.writes) ≡ write_all l.fn.holds l.writes;
      widths : map length l.holds ≡ map length l.fn.holds;
    }
