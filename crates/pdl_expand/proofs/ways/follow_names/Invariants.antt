use Rattle.std.proofs.Common.{◌≡◌, ◌<◌, length, drop}
use Rattle.pdl_expand.specs.Expansion.{dotted_paths}
use Rattle.pdl_expand.specs.SeenWays.{Cells, names_of}
use Rattle.pdl_expand.proofs.Walking.{IsOn}
use Rattle.pdl_expand.proofs.ways.follow_names.Given as goal

abbrev pub invariant-loop-name : goal.invariant-loop-name
invariant-loop-name l = record {
  there : l.node < length l.known;
  on : (cells : Cells) → l.known ≡ dotted_paths cells
      → IsOn cells l.fn.node (names_of l.names) l.node l.key.items (names_of (drop l.name-index l.names));
}
