-- Each step that is gone through leaves the cursor in its procedure, before the scan.
use Rattle.std.proofs.Common.{◌≤◌, length}
use Rattle.run_report.specs.Reaching.{CanGoOn, StandsOn}
use Rattle.run_report.proofs.cursor.Cursor.reach.Given as goal

abbrev pub invariant-going : goal.invariant-going
invariant-going l =
    record {
      can : CanGoOn l.net l.tree l.self;
      stands : StandsOn l.net l.tree l.fn.self l.self;
      first : l.self.first ≤ l.scan;
    }

abbrev pub decreases-going : goal.decreases-going
decreases-going l = length l.self.steps.steps
