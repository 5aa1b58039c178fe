use Rattle.std.proofs.Common.{◌≡◌, ◌≤◌, ◌-◌, ◌++◌, length, take, drop}
use Rattle.net_graph.specs.Chain.{IsRoute}
use Rattle.svf_audit.specs.Audit.{bits_on}
use Rattle.svf_audit.proofs.registers.keep_common_front.Given as goal

abbrev pub invariant-loop-same : goal.invariant-loop-same
invariant-loop-same l =
    record {
      front : take l.kept l.bits.items ++ bits_on l.holds (drop l.same l.path) ≡ bits_on l.holds l.path;
      rest : drop l.kept l.bits.items ≡ bits_on l.holds (drop l.same l.old);
      route : IsRoute (length l.holds) (drop l.same l.path);
      within : l.kept ≤ length l.bits.items;
      short : l.same ≤ length l.path;
    }

abbrev pub decreases-loop-same : goal.decreases-loop-same
decreases-loop-same l = length l.path - l.same
