-- What is kept of a direct meaning while it is printed: its reads are counted.
use Rattle.std.specs.Prelude.{◌≡◌, ℕ, List, length}
use Rattle.instruments.specs.OnNetwork.{Running}
use Rattle.instruments.specs.Seen.{SeenModel}
use Rattle.instruments.specs.declared.Counts.{Counts}
use Rattle.net_graph.specs.Signals.{Holds}
use Rattle.net_graph.specs.declared.net.Net.{Net}
use Rattle.pdl_meaning.specs.Direct.{Direct}
use Rattle.direct_report.specs.Report.{differing}

pub record Tally : Type 0 where
  pub net : Net
  pub models : List SeenModel
  pub holds : Holds
  pub insts : List (Running Counts)
  -- how many bits were compared, and how many of them differ
  pub reads : ℕ
  pub differs : ℕ

-- the same register bits, the same instruments, and the counts of the reads
pub record Keeps (k : Tally) (d : Direct Counts) : Type 0 where
  pub holds : k.holds ≡ d.holds
  pub insts : k.insts ≡ d.insts
  pub reads : k.reads ≡ length d.reads
  pub differs : k.differs ≡ length (differing d)
