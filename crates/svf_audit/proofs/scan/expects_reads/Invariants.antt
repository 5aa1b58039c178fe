use Rattle.std.proofs.Common.{◌≡◌, drop}
use Rattle.std.specs.Prelude.{map}
use Rattle.svf_audit.specs.Audit.{expected_of, same_expects}
use Rattle.svf_audit.specs.LastParts.{looked_for}
use Rattle.svf_audit.proofs.scan.expects_reads.Given as goal

abbrev pub invariant-loop-k : goal.invariant-loop-k
invariant-loop-k l =
    same_expects (drop l.k (looked_for l.kept l.tdo)) (map (expected_of l.reads) (drop l.k l.bits))
    ≡ same_expects (looked_for l.kept l.tdo) (map (expected_of l.reads) l.bits)
