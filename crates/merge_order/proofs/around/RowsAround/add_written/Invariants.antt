use Rattle.std.proofs.Common.{◌≡◌, take, Bool}
use Rattle.std.specs.Prelude.{◌||◌, flat_map}
use Rattle.std.specs.List.{list_any}
use Rattle.net_graph.specs.declared.branch.Branch.{Branch}
use Rattle.pdl_targets.specs.SeenPlaces.{places_in}
use Rattle.merge_order.specs.RowsAround.{HasLast}
use Rattle.merge_order.proofs.around.RowsAround.add_written.Given as goal

abbrev pub invariant-loop-write : goal.invariant-loop-write
invariant-loop-write l = record {
  rows : (test : Branch → Bool) → list_any test l.self.rows.items ≡ (list_any test l.fn.self.rows.items ||
      list_any test (flat_map (λ w. places_in l.tree w.bit.reg) (take l.write-index l.writes)));
  last : HasLast (places_in l.tree) l.self;
}
