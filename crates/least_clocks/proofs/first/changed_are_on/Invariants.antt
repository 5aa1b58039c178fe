use Rattle.std.proofs.Common.{◌≡◌, drop, map}
use Rattle.std.specs.Prelude.{not, filter}
use Rattle.std.specs.List.{list_all}
use Rattle.net_graph.specs.Path.{is_in}
use Rattle.svf_audit.specs.Work.{has_value}
use Rattle.least_clocks.proofs.first.changed_are_on.Given as goal

abbrev pub invariant-loop-write : goal.invariant-loop-write
invariant-loop-write l =
    list_all (is_in l.path)
    (map (λ w. w.bit.reg) (filter (λ w. not (has_value l.holds w)) (drop l.write-index l.writes)))
    ≡ list_all (is_in l.path) (map (λ w. w.bit.reg) (filter (λ w. not (has_value l.holds w)) l.writes))
