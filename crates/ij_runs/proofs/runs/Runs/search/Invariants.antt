use Rattle.std.proofs.Common.{◌≤◌, ◌+◌, take}
use Rattle.std.specs.Prelude.{All}
use Rattle.ij_runs.proofs.runs.Runs.search.Given as goal

abbrev pub invariant-loop-run : goal.invariant-loop-run
invariant-loop-run g l = All (λ r. r.start + r.len ≤ l.i) (take l.run-index l.self-inside.before.items)
