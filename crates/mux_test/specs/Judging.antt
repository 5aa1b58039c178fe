-- What is known at the beginning of a scan where rows are judged, and room for it.
use Rattle.std.specs.Option.{ForSome}
use Rattle.net_graph.specs.declared.net.Net.{Net}
use Rattle.net_graph.specs.Signals.{Holds}
use Rattle.mux_test.specs.declared.judge.Judge.{Judge}
use Rattle.mux_test.specs.Detours.{HasDetourRoom, IsTracedFrom}
use Rattle.mux_test.specs.KnownRows.{AreKnown, HasKnownRoom}

-- room for the row that each mux is in, and for two paths
pub record HasJudgeRoom (net : Net) (judge : Judge) : Type 0 where
  pub known : HasKnownRoom net judge.known
  pub detour : HasDetourRoom net judge.detour

-- where the row that each mux is in is known, and the active path is traced from the mux that is noted
pub record IsReady (net : Net) (holds : Holds) (judge : Judge) : Type 0 where
  pub known : AreKnown net holds judge.known
  pub detour : HasDetourRoom net judge.detour
  pub own : ForSome judge.detour.from (IsTracedFrom net holds judge.detour.ahead judge.detour.own.items)
