use Rattle.std.specs.Prelude.{map}
use Rattle.std.proofs.Common.{◌≡◌, ◌++◌, length}
use Rattle.net_graph.specs.SeenSteps.{seen_step}
use Rattle.svf_audit.proofs.listed.list_steps.Given as goal

abbrev pub invariant-loop-list : goal.invariant-loop-list
invariant-loop-list l = map seen_step l.list.items ++ l.steps.steps ≡ l.fn.steps.steps

abbrev pub decreases-loop-list : goal.decreases-loop-list
decreases-loop-list l = length l.steps.steps
