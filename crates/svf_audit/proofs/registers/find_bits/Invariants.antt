use Rattle.std.proofs.Common.{◌≡◌, ◌++◌, length, drop, vec_capacity}
use Rattle.net_graph.specs.Chain.{IsRoute}
use Rattle.svf_audit.specs.Audit.{bits_on}
use Rattle.svf_audit.proofs.registers.find_bits.Given as goal

abbrev pub invariant-loop-i : goal.invariant-loop-i
invariant-loop-i l =
    record {
      items : l.bits.items ++ bits_on l.holds (drop l.i l.path) ≡ bits_on l.holds l.path;
      route : IsRoute (length l.holds) (drop l.i l.path);
      room : vec_capacity l.bits ≡ vec_capacity l.fn.bits;
    }
