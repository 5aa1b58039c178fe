use Rattle.std.proofs.Common.{◌≡◌, ◌+◌, drop}
use Rattle.std.specs.Prelude.{map}
use Rattle.net_graph.specs.SeenSteps.{seen_group}
use Rattle.pdl_meaning.specs.States.{reads_of}
use Rattle.pdl_meaning.proofs.direct.count_reads.Given as goal

abbrev pub invariant-loop-group : goal.invariant-loop-group
invariant-loop-group l =
    l.count + reads_of (map seen_group (drop l.group-index l.rounds)) ≡ reads_of (map seen_group l.rounds)
