use Rattle.std.proofs.Common.{◌≡◌, ◌+◌, drop, length}
use Rattle.net_graph.specs.Chain.{chain, IsRoute}
use Rattle.net_graph.proofs.holds.Holds.path_bits.Given as goal

abbrev pub invariant-loop-i : goal.invariant-loop-i
invariant-loop-i l =
    record {
      route : IsRoute (length l.self) (drop l.i l.path);
      bits : l.bits + length (chain (drop l.i l.path) l.self) ≡ length (chain l.path l.self);
    }
