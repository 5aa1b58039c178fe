use Rattle.std.proofs.Common.{◌≡◌, ◌+◌, true, ap, sym, ◌∙◌, arith, drop, get_or, None}
use Rattle.std.specs.Prelude.{◌&&◌, map}
use Rattle.net_graph.specs.declared.net.BitId.{BitId}
use Rattle.svf_audit.specs.Audit.{expected_of, same_expect, same_expects}
use Rattle.svf_audit.specs.LastParts.{looked_for, seen_last}
use Rattle.svf_audit.proofs.Looking.{length-expected}
use Rattle.svf_audit.proofs.Walks.{same_end, same_step}
use Rattle.svf_audit.proofs.scan.expects_reads.Goals as goal

pub loop-k-preserved : goal.loop-k-preserved
loop-k-preserved c =
    let kept = c.args.kept.now in
    let k = c.loop-k.k in
    let es = looked_for kept c.args.tdo.now in
    let bits = c.args.bits.now in
    let first : BitId = record { reg = 0; pos = 0 } in
    let long = length-expected kept.len c.args.tdo.now (seen_last kept).mask c.requires.tdo in
    let here : same_expect (get_or es k None) (expected_of c.args.reads.now (get_or bits k first)) ≡ true =
    sym (c.is_same.ensures ∙ ap (λ o. same_expect o c.expected-wanted.result) c.expected_at.ensures
    ∙ ap (same_expect (get_or es k None)) c.expected-wanted.ensures) ∙ c.if-not-is_same.false in
    sym (ap (λ t. t && same_expects (drop (k + 1) es)
    (map (expected_of c.args.reads.now) (drop (k + 1) bits))) here)
    ∙ sym (same_step (expected_of c.args.reads.now) es bits k first
    (omega (arith, long)) (omega (arith, c.requires.fits)))
    ∙ c.loop-k.invariant

pub returns : goal.returns
returns c =
    let kept = c.args.kept.now in
    let long = length-expected kept.len c.args.tdo.now (seen_last kept).mask c.requires.tdo in
    sym (same_end (expected_of c.args.reads.now) (looked_for kept c.args.tdo.now) c.args.bits.now c.loop-k.k
    (omega (arith, long)) (omega (arith, c.requires.fits))) ∙ c.loop-k.invariant
