use Rattle.std.proofs.Common.{◌≡◌, drop}
use Rattle.std.specs.List.{list_all}
use Rattle.svf_audit.specs.Work.{has_value}
use Rattle.least_clocks.proofs.work.have_values.Given as goal

abbrev pub invariant-loop-w : goal.invariant-loop-w
invariant-loop-w l =
    list_all (has_value l.holds) (drop l.w-index l.writes) ≡ list_all (has_value l.holds) l.writes
