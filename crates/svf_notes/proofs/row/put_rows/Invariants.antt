-- the registers from i on are written, and the bits of those before them end at `end`
use Rattle.std.proofs.Common.{◌≡◌, ◌≤◌, ◌-◌, Some, drop, length, take}
use Rattle.ij_io.specs.Bytes.{Adds}
use Rattle.net_graph.specs.Chain.{chain}
use Rattle.svf_notes.specs.Notes.{note_text, rows}
use Rattle.svf_notes.proofs.row.put_rows.Given as goal

abbrev pub invariant-loop-j : goal.invariant-loop-j
invariant-loop-j l =
    let i = length l.path - l.j in
    record {
      end : l.end ≡ length (chain (take i l.path) l.holds);
      within : l.end ≤ length l.bits.items;
      same : l.heads ≡ l.fn.heads;
      rows : Adds (Some l.fn.note) (Some l.note)
          (note_text (rows l.fn.heads l.holds l.end (drop i l.path) (drop l.end l.bits.items)));
    }
