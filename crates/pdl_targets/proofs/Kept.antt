-- What is kept of a queue, whatever the table of its rounds is.
use Rattle.net_graph.specs.declared.net.Net.{Net}
use Rattle.pdl_targets.specs.declared.gather.Gathered.{Gathered}
use Rattle.pdl_targets.specs.SeenGathered.{IsKept}
use Rattle.pdl_targets.specs.Rows.{StampedRows}

pub with_rows : (net : Net) (g : Gathered) (rows : StampedRows)
    → IsKept net g → IsKept net (record g { rows = rows })
with_rows net g rows kept = record {
  limited = record { rounds = kept.limited.rounds; cycles = kept.limited.cycles };
  writes = kept.writes;
  reads = kept.reads;
  registers = kept.registers;
}
