use Rattle.std.proofs.Common.{◌≡◌, ◌+◌, length, drop}
use Rattle.std.specs.Prelude.{reverse}
use Rattle.net_graph.specs.Chain.{chain}
use Rattle.net_graph.specs.Resets.{zero_holds}
use Rattle.scan_packer.specs.Started.{noted}
use Rattle.scan_packer.proofs.fill.note_starts.Given as goal

abbrev pub invariant-loop-i : goal.invariant-loop-i
invariant-loop-i l =
    record {
      starts : noted (zero_holds l.net) (drop l.i (reverse l.path)) l.start l.starts.items
          ≡ noted (zero_holds l.net) (reverse l.path) 0 l.fn.starts.items;
      bits : l.start + length (chain (drop l.i (reverse l.path)) (zero_holds l.net))
          ≡ length (chain (reverse l.path) (zero_holds l.net));
      long : length l.starts.items ≡ length l.fn.starts.items;
    }
