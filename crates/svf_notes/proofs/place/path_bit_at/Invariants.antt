use Rattle.std.proofs.Common.{◌≡◌, drop, length}
use Rattle.net_graph.specs.Chain.{IsRoute}
use Rattle.svf_notes.specs.Places.{path_bit_at}
use Rattle.svf_notes.proofs.place.path_bit_at.Given as goal

abbrev pub invariant-loop-i : goal.invariant-loop-i
invariant-loop-i l =
    record {
      route : IsRoute (length l.holds) (drop l.i l.path);
      bit : path_bit_at l.holds (drop l.i l.path) l.left ≡ path_bit_at l.holds l.path l.at;
    }
