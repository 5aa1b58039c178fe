use Rattle.std.proofs.Common.{◌≡◌, drop}
use Rattle.std.specs.Prelude.{◌==◌}
use Rattle.std.specs.List.{list_all, list_any}
use Rattle.svf_audit.proofs.scan.are_on_path.Given as goal

abbrev pub invariant-loop-read : goal.invariant-loop-read
invariant-loop-read l =
    list_all (λ r. list_any (λ x. x == r.bit.reg) l.path) (drop l.read-index l.reads)
    ≡ list_all (λ r. list_any (λ x. x == r.bit.reg) l.path) l.reads
