-- The path on which the mux is stuck goes on to where it is, and the active path stays as it was traced.
use Rattle.std.proofs.Common.{◌≡◌, ◌≤◌, length}
use Rattle.net_graph.specs.Named.{IsPointOf}
use Rattle.mux_test.specs.Detours.{HasDetourRoom, IsTracedFrom}
use Rattle.mux_test.proofs.Detours.{LeadsTo}
use Rattle.mux_test.proofs.detour.Detour.trace_other.Given as goal

abbrev pub invariant-loop-turn : goal.invariant-loop-turn
invariant-loop-turn l =
    record {
      there : IsPointOf l.net l.at;
      from : l.self.from ≡ l.fn.self.from;
      own : IsTracedFrom l.net l.holds l.self.ahead l.self.own.items l.row.mux;
      room : HasDetourRoom l.net l.self;
      few : length l.self.other.items ≤ length l.net.regs.items;
      leads : LeadsTo l.net l.holds l.row l.at l.self.other.items;
    }
