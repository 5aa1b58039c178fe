use Rattle.std.proofs.Common.{◌≡◌, drop}
use Rattle.std.specs.List.{list_all}
use Rattle.net_graph.specs.declared.net.Point.TheVariants.{Reg}
use Rattle.net_tree.specs.Places.{place_of}
use Rattle.least_clocks.specs.Inside.{is_one_of}
use Rattle.least_clocks.proofs.inside.is_inside.Given as goal

abbrev pub invariant-loop-row : goal.invariant-loop-row
invariant-loop-row l =
    list_all (is_one_of l.rows) (drop l.row-index (place_of l.tree (Reg l.reg)))
    ≡ list_all (is_one_of l.rows) (place_of l.tree (Reg l.reg))
