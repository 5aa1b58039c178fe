-- The direct meaning as a run keeps it: register bits, instruments with the counts of their events, and
-- reads.
use Rattle.std.specs.Prelude.{ℕ, ◌+◌, Bool, List, [], ◌∷◌, length}
use Rattle.instruments.specs.declared.Counts.{Counts}
use Rattle.instruments.specs.declared.model.Model.{Model}
use Rattle.instruments.specs.OnNetwork.{Running}
use Rattle.net_graph.specs.SeenSteps.{SeenGroup}
use Rattle.net_graph.specs.Signals.{Holds}
use Rattle.net_graph.specs.declared.net.Net.{Net}
use Rattle.net_graph.specs.declared.step.ReadBit.{ReadBit}
use Rattle.pdl_meaning.specs.Direct.{Direct}

-- each read bit with the value found
abbrev pub Reads : Type 0
Reads = List (ReadBit × Bool)

-- all but the reads
pub record SeenState : Type 0 where
  pub net : Net
  pub models : List Model
  pub holds : Holds
  pub insts : List (Running Counts)

-- the network, the models of its instruments, and the state of the procedure's meaning
pub record SeenDirect : Type 0 where
  pub net : Net
  pub models : List Model
  pub state : Direct Counts

abbrev pub direct_at : Holds → List (Running Counts) → Reads → Direct Counts
direct_at holds insts reads = record { holds = holds; insts = insts; reads = reads }

-- the same with some reads
abbrev pub with_reads : SeenState → Reads → Direct Counts
with_reads s reads = direct_at s.holds s.insts reads

-- how many bits some rounds read
abbrev pub reads_of : List SeenGroup → ℕ
reads_of [] = 0
reads_of (g ∷ gs) = length g.reads + reads_of gs
