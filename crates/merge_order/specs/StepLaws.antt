-- What follows for the bit steps of a procedure: they are those of its steps, they are of the network, and
-- there are few.
use Rattle.std.specs.Prelude.{◌≡◌, ◌≤◌, ℕ, List, length, Some, All}
use Rattle.net_graph.specs.declared.net.Net.{Net}
use Rattle.net_graph.specs.Nets.{IsNet}
use Rattle.net_graph.specs.Steps.{IsStep}
use Rattle.net_tree.specs.Form.{Items}
use Rattle.pdl_parser.specs.Values.{AProc}
use Rattle.pdl_expand.specs.Expansion.{expansion}
use Rattle.pdl_expand.specs.Values.{cells_of}
use Rattle.pdl_targets.specs.Binding.{bound}
use Rattle.pdl_targets.specs.Laws.{HasPaths, rounds_in, cycles_in, cycles_of}
use Rattle.pdl_targets.specs.SeenPlaces.{places_in}
use Rattle.merge_order.specs.AllSteps.{fed}
use Rattle.merge_order.specs.Feeding.{begin}
use Rattle.merge_order.specs.Laws.{HaveNoMerge}
use Rattle.merge_order.specs.BitSteps.{bit_steps}

-- the bit steps of a procedure are what becomes ready of the steps of its expansion
abbrev pub StepsAreFed : Type 0
StepsAreFed = (procs : List AProc) (net : Net) (form : Items) (name : List ℕ)
    → (bit_steps procs net form name).steps
    ≡ fed net (places_in form) begin (expansion procs (cells_of net) name).steps

-- without merges, what binding makes of them
abbrev pub StepsAreBound : Type 0
StepsAreBound = (procs : List AProc) (net : Net) (form : Items) (name : List ℕ)
    → HaveNoMerge (expansion procs (cells_of net) name).steps
    → (bit_steps procs net form name).steps
    ≡ (bound net (places_in form) (expansion procs (cells_of net) name).steps).steps

-- so each is one of the network, where this is well formed
abbrev pub BitStepsAreOfTheNetwork : Type 0
BitStepsAreOfTheNetwork = (procs : List AProc) (net : Net) (form : Items) (name : List ℕ) → IsNet net
    → All (IsStep net) (bit_steps procs net form name).steps

-- each round of an iApply names something, and its registers can be on one path
abbrev pub BitStepsHavePaths : Type 0
BitStepsHavePaths = (procs : List AProc) (net : Net) (form : Items) (name : List ℕ)
    → All (HasPaths (places_in form)) (bit_steps procs net form name).steps

-- a procedure has at most 100,000 bit steps
abbrev pub BitStepsAreFew : Type 0
BitStepsAreFew = (procs : List AProc) (net : Net) (form : Items) (name : List ℕ)
    → length (bit_steps procs net form name).steps ≤ 100000

-- with at most 4096 rounds
abbrev pub BitRoundsAreFew : Type 0
BitRoundsAreFew = (procs : List AProc) (net : Net) (form : Items) (name : List ℕ)
    → rounds_in (bit_steps procs net form name).steps ≤ 4096

-- and at most 4,000,000 run cycles, at most 1,000,000 of them in one run
abbrev pub BitCyclesAreFew : Type 0
BitCyclesAreFew = (procs : List AProc) (net : Net) (form : Items) (name : List ℕ)
    → cycles_in (bit_steps procs net form name).steps ≤ 4000000

abbrev pub BitRunsAreShort : Type 0
BitRunsAreShort = (procs : List AProc) (net : Net) (form : Items) (name : List ℕ)
    → All (λ s. cycles_of (Some s) ≤ 1000000) (bit_steps procs net form name).steps
