-- How a run stands for a direct meaning, from round to round.
use Rattle.std.specs.Prelude.{◌≡◌, ◌≤◌, ◌+◌, ℕ, List, length, map, All}
use Rattle.ij_bits.specs.Different.{AreDifferent}
use Rattle.instruments.specs.Machine.{count_log}
use Rattle.instruments.specs.OnNetwork.{changes}
use Rattle.instruments.specs.declared.Counts.{Counts}
use Rattle.net_graph.specs.Named.{IsBitOf}
use Rattle.net_graph.specs.Writes.{write_all}
use Rattle.net_graph.specs.declared.net.Net.{Net}
use Rattle.net_graph.specs.declared.step.ReadBit.{ReadBit}
use Rattle.net_graph.specs.declared.step.WriteBit.{WriteBit}
use Rattle.pdl_meaning.specs.Direct.{Direct}
use Rattle.pdl_meaning.specs.States.{SeenState}
use Rattle.instruments.specs.Runners.{machines_of}
use Rattle.direct_report.specs.Report.{differing}

-- the same register bits and instruments
pub record SameState (s : SeenState) (d : Direct Counts) : Type 0 where
  pub holds : s.holds ≡ d.holds
  pub insts : s.insts ≡ d.insts

-- this many reads were added, and this many that differ
pub record AreCounted (read differ : ℕ) (before after : Direct Counts) : Type 0 where
  pub reads : read + length before.reads ≡ length after.reads
  pub differs : differ + length (differing before) ≡ length (differing after)

-- reads of a round: bits of the network, each once
pub record AreReads (net : Net) (reads : List ReadBit) : Type 0 where
  pub there : All (λ r. IsBitOf net r.bit) reads
  pub once : AreDifferent (map (λ r. r.bit) reads)
  pub few : length reads ≤ 4096

-- all writes of a list were done at once
abbrev pub IsAfterWrites : SeenState → List WriteBit → SeenState → Type 0
IsAfterWrites old ws new =
    new ≡ record old {
      holds = write_all old.holds ws;
      insts = changes count_log old.net (machines_of old.models) old.holds (write_all old.holds ws) old.insts;
    }
