use Rattle.std.proofs.Common.{◌≡◌, ◌≤◌, length, take}
use Rattle.std.specs.Prelude.{filter}
use Rattle.direct_report.specs.Report.{differs}
use Rattle.direct_report.specs.Seen.{found_all}
use Rattle.direct_report.proofs.reads.count_differing.Given as goal

abbrev pub invariant-loop-read : goal.invariant-loop-read
invariant-loop-read l =
    record {
      count : l.count ≡ length (filter differs (found_all l.values (take l.read-index l.reads)));
      few : l.count ≤ l.read-index;
    }
