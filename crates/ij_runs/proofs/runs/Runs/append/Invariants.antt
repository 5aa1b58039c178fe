use Rattle.std.proofs.Common.{◌≡◌, ◌++◌, take}
use Rattle.ij_runs.specs.Runs.{expanded}
use Rattle.ij_runs.proofs.runs.Runs.append.Given as goal

abbrev pub invariant-loop-run : goal.invariant-loop-run
invariant-loop-run g l =
    l.self.items ≡ l.fn.self.items ++ expanded g.T.Follow.after (take l.run-index l.more-inside.before.items)
