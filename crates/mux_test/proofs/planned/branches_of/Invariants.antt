use Rattle.std.proofs.Common.{◌≡◌, ◌++◌, drop}
use Rattle.mux_test.specs.Test.{branches, branches_from}
use Rattle.mux_test.proofs.planned.branches_of.Given as goal

abbrev pub invariant-loop-mux : goal.invariant-loop-mux
invariant-loop-mux l = l.branches.items ++ branches_from l.mux (drop l.mux l.net.muxes.items) ≡ branches l.net
