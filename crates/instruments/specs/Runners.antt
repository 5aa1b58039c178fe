-- The instruments of a bench, each with its model, its state, the numbers at its inputs and the counts of its
-- events.
use Rattle.std.specs.Prelude.{◌≡◌, ℕ, List, map, length, get_or, replicate, All}
use Rattle.instruments.specs.declared.Counts.{Counts}
use Rattle.instruments.specs.declared.model.Model.{Model}
use Rattle.instruments.specs.After.{machine_of}
use Rattle.instruments.specs.Arrays.{StandFor}
use Rattle.instruments.specs.Machine.{Machine}
use Rattle.instruments.specs.Models.{IsModel}
use Rattle.instruments.specs.Seen.{seen_model}
use Rattle.instruments.specs.OnNetwork.{Running, inputs_at}
use Rattle.net_graph.specs.Signals.{Holds}
use Rattle.net_graph.specs.declared.net.Net.{Net}
use Rattle.instruments.specs.declared.runner.Runner.{Runner}

-- the machines of some models
abbrev pub machines_of : List Model → List Machine
machines_of models = map (λ m. machine_of (seen_model m)) models

-- a model for each instrument
pub record AreModels (net : Net) (models : List Model) : Type 0 where
  pub each : All (λ m. IsModel (seen_model m)) models
  pub count : length models ≡ length net.insts.items

abbrev pub running_of : Runner → Running Counts
running_of r = record { inner = r.machine; log = r.counts }

abbrev pub insts_of : List Runner → List (Running Counts)
insts_of runners = map running_of runners

-- the numbers that an instrument was last shown at its inputs
abbrev pub shown_at : List Runner → ℕ → List ℕ
shown_at runners i = get_or (map (λ r. r.inputs) runners) i (replicate 16 0)

-- a state for each model, and the inputs are shown as the update stages drive them
pub record AreRunning (net : Net) (models : List Model) (holds : Holds) (runners : List Runner) : Type 0 where
  pub fit : AreModels net models
  pub count : length runners ≡ length models
  pub shown : (i : ℕ) → StandFor (shown_at runners i) (inputs_at net holds i)
