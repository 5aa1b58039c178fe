use Rattle.std.proofs.Common.{◌≡◌, length, drop}
use Rattle.std.specs.Prelude.{map}
use Rattle.net_graph.specs.Writes.{write_all}
use Rattle.least_clocks.proofs.work.write_group.Given as goal

abbrev pub invariant-loop-w : goal.invariant-loop-w
invariant-loop-w l = record {
  rest : write_all l.holds (drop l.w-index l.group.writes.items) ≡ write_all l.fn.holds l.group.writes.items;
  widths : map length l.holds ≡ map length l.fn.holds;
}
