use Rattle.std.specs.Prelude.{map}
use Rattle.std.proofs.Common.{◌≡◌, ◌+◌, drop}
use Rattle.net_graph.specs.SeenSteps.{seen_step}
use Rattle.pdl_targets.specs.Laws.{rounds_in}
use Rattle.svf_audit.proofs.counts.round_count.Given as goal

abbrev pub invariant-loop-i : goal.invariant-loop-i
invariant-loop-i l = l.rounds + rounds_in (map seen_step (drop l.i l.steps))
    ≡ rounds_in (map seen_step l.steps)
