-- What was gathered, as the definitions see it.
use Rattle.std.specs.Prelude.{◌≡◌, ◌≤◌, ◌+◌, ℕ, [], Option, None, Result, Ok, Err}
use Rattle.std.specs.Option.{option_map}
use Rattle.net_graph.specs.declared.net.Net.{Net}
use Rattle.net_graph.specs.declared.step.BitStep.{BitStep}
use Rattle.net_graph.specs.SeenSteps.{seen_step}
use Rattle.pdl_targets.specs.declared.fault.TargetFault.{TargetFault}
use Rattle.pdl_targets.specs.declared.gather.Gathered.{Gathered}
use Rattle.pdl_targets.specs.Binding.{Answer, Queue}
use Rattle.pdl_targets.specs.Marked.{AreNumbered, bits_compared, bits_written, first_bits}
use Rattle.pdl_targets.specs.Seen.{Refuses}
use Rattle.pdl_targets.specs.Targets.{Found, Is}

abbrev pub seen_gathered : Gathered → Queue
seen_gathered g = record {
  writes = g.writes.items;
  reads = g.reads.items;
  registers = g.registers.items;
  pending = g.pending;
  asked = g.asked;
  rounds = g.rounds;
  cycles = g.cycles;
}

-- the limits of rounds and run cycles are kept
pub record IsLimited (g : Gathered) : Type 0 where
  pub rounds : g.rounds ≤ 4096
  pub cycles : g.cycles ≤ 4000000

-- the marks say where the bits and the registers of the queue stand, and the limits are kept
pub record IsKept (net : Net) (g : Gathered) : Type 0 where
  pub limited : IsLimited g
  pub writes : AreNumbered net g.write_marks (bits_written g.writes.items)
  pub reads : AreNumbered net g.read_marks (bits_compared g.reads.items)
  pub registers : AreNumbered net g.register_marks (first_bits g.registers.items)

-- a queue after an iApply of this many rounds
abbrev pub applied_queue : Queue → ℕ → Queue
applied_queue q n =
    record q { writes = []; reads = []; registers = []; pending = None; rounds = q.rounds + n }

-- a step's answer is what it makes of the queue and its bit step, or says the fault in place of them
abbrev pub Binds : Found Answer → Queue → Result (Option BitStep) TargetFault → Type 0
Binds found queue (Ok step) = found ≡ Is (record { queue = queue; step = option_map seen_step step })
Binds found queue (Err e) = Refuses found e
