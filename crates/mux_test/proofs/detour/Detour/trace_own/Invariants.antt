use Rattle.std.proofs.Common.{◌≡◌, Some}
use Rattle.mux_test.specs.Detours.{HasDetourRoom, IsTracedFrom}
use Rattle.mux_test.proofs.detour.Detour.trace_own.Given as goal

abbrev pub invariant-loop-turn : goal.invariant-loop-turn
invariant-loop-turn l =
    record {
      from : l.self.from ≡ Some l.mux;
      own : IsTracedFrom l.net l.holds l.self.ahead l.self.own.items l.mux;
      room : HasDetourRoom l.net l.self;
    }
