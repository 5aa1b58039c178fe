use Rattle.std.proofs.Common.{◌≡◌, drop}
use Rattle.net_graph.specs.Path.{is_in}
use Rattle.path_planner.proofs.near.place_on.Given as goal

abbrev pub invariant-loop-i : goal.invariant-loop-i
invariant-loop-i l = is_in (drop l.i l.path) l.reg ≡ is_in l.path l.reg
