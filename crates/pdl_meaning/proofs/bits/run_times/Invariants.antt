-- What is left to run gives what all cycles give, and the instruments are shown the same numbers.
use Rattle.std.proofs.Common.{◌≡◌, ◌-◌, Bool, List}
use Rattle.std.specs.Prelude.{map}
use Rattle.instruments.specs.Machine.{count_log}
use Rattle.net_graph.specs.Signals.{Holds}
use Rattle.net_graph.specs.declared.net.Net.{Net}
use Rattle.net_graph.specs.declared.step.ReadBit.{ReadBit}
use Rattle.pdl_meaning.specs.Direct.{run_cycles}
use Rattle.pdl_meaning.specs.States.{direct_at}
use Rattle.instruments.specs.Runners.{AreRunning, insts_of, machines_of}
use Rattle.pdl_meaning.proofs.bits.run_times.Given as goal

abbrev pub invariant-loop : goal.invariant-loop
invariant-loop l =
    record {
      shown : map (λ r. r.inputs) l.runners ≡ map (λ r. r.inputs) l.fn.runners;
      state : (net : Net) (holds : Holds) (reads : List (ReadBit × Bool))
          → AreRunning net l.models.items holds l.fn.runners
          → run_cycles count_log net (machines_of l.models.items) (l.cycles - l.counter)
          (direct_at holds (insts_of l.runners) reads)
          ≡ run_cycles count_log net (machines_of l.models.items) l.cycles
          (direct_at holds (insts_of l.fn.runners) reads);
    }
