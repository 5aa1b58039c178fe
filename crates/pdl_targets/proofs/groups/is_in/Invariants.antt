use Rattle.std.proofs.Common.{◌≡◌, drop}
use Rattle.net_graph.specs.Path.{is_in}
use Rattle.pdl_targets.proofs.groups.is_in.Given as goal

abbrev pub invariant-loop-one : goal.invariant-loop-one
invariant-loop-one l = is_in (drop l.one-index l.round) l.register ≡ is_in l.round l.register
