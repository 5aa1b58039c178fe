use Rattle.std.proofs.Common.{◌≡◌, ◌≤◌, ◌+◌, ◌*◌, ◌^◌, drop, length}
use Rattle.net_graph.specs.Chain.{IsRoute}
use Rattle.least_clocks.specs.Inside.{bits_along}
use Rattle.least_clocks.proofs.first.bits_along.Given as goal

abbrev pub invariant-loop-i : goal.invariant-loop-i
invariant-loop-i l = record {
  route : IsRoute (length l.net.regs.items) (drop l.i l.path);
  bits : l.bits + bits_along l.net (drop l.i l.path) ≡ bits_along l.net l.path;
  few : l.bits ≤ l.i * 2 ^ 32;
}
