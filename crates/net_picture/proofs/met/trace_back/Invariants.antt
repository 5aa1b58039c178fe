use Rattle.std.proofs.Common.{◌≡◌, ◌-◌, ◌++◌}
use Rattle.std.specs.Prelude.{IfSome, Some}
use Rattle.net_graph.specs.Named.{IsPointOf}
use Rattle.net_picture.specs.Met.{met_from}
use Rattle.net_picture.proofs.met.trace_back.Given as goal

abbrev pub invariant-loop-turn : goal.invariant-loop-turn
invariant-loop-turn l = record {
  there : IfSome l.next (IsPointOf l.net);
  so_far : l.points.items ++ met_from l.net l.holds (l.most - l._turn) l.next
      ≡ met_from l.net l.holds l.most (Some l.net.out);
}
