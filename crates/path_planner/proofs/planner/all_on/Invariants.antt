use Rattle.std.proofs.Common.{◌≡◌, drop}
use Rattle.std.specs.List.{list_all}
use Rattle.net_graph.specs.Path.{is_in}
use Rattle.path_planner.proofs.planner.all_on.Given as goal

abbrev pub invariant-loop-reg : goal.invariant-loop-reg
invariant-loop-reg l = list_all (is_in l.path) (drop l.reg-index l.regs) ≡ list_all (is_in l.path) l.regs
