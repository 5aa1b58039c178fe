-- What is noted so far, and that what is left can be scanned.
use Rattle.net_tree.specs.Routes.{HasRoom}
use Rattle.run_report.proofs.Going.{Goes}
use Rattle.run_report.proofs.scans.note_plans_reads.Given as goal

abbrev pub invariant-loop-plan : goal.invariant-loop-plan
invariant-loop-plan l =
    record {
      goes : Goes l.net l.fn.holds l.plans l.scans l.fn.places.items
          l.plan-index l.holds l.scan l.places.items;
      room : HasRoom l.net l.route;
    }
