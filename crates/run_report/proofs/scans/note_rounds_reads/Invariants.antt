-- What is noted so far, whatever the plans of the rounds are.
use Rattle.std.proofs.Common.{◌≤◌, ◌+◌, ◌*◌}
use Rattle.net_tree.specs.Routes.{HasRoom}
use Rattle.path_planner.specs.Scannable.{IsScannable}
use Rattle.run_report.proofs.Going.{Go}
use Rattle.run_report.proofs.scans.note_rounds_reads.Given as goal

abbrev pub invariant-loop-group : goal.invariant-loop-group
invariant-loop-group l =
    record {
      go : Go l.net l.tree l.fn.holds l.rounds l.scans l.fn.places.items
          l.group-index l.holds l.now l.places.items;
      few : l.now ≤ l.scans + 17 * l.group-index;
      scannable : IsScannable l.net l.holds;
      room : HasRoom l.net l.route;
    }
