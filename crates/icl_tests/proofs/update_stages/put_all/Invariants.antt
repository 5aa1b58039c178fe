use Rattle.net_graph.specs.Held.{AreHolds}
use Rattle.icl_tests.proofs.update_stages.put_all.Given as goal

abbrev pub invariant-loop-entry : goal.invariant-loop-entry
invariant-loop-entry l = AreHolds l.net l.holds
