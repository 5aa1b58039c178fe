use Rattle.std.proofs.Common.{◌≡◌, length}
use Rattle.std.specs.Prelude.{map}
use Rattle.instruments.specs.Machine.{Run}
use Rattle.net_graph.specs.Signals.{Holds}
use Rattle.net_graph.specs.declared.net.Net.{Net}
use Rattle.instruments.specs.Runners.{AreRunning}
use Rattle.instruments.proofs.Running.{Left, had}
use Rattle.instruments.proofs.all.run_all.Given as goal

abbrev pub invariant-loop-i : goal.invariant-loop-i
invariant-loop-i l = record {
  count : length l.runners ≡ length l.models.items;
  shown : map (λ r. r.inputs) l.runners ≡ map (λ r. r.inputs) l.fn.runners;
  state : (net : Net) (holds : Holds) → AreRunning net l.models.items holds l.fn.runners
      → Left (had net l.models.items Run holds) l.i l.runners
      ≡ Left (had net l.models.items Run holds) 0 l.fn.runners;
}
