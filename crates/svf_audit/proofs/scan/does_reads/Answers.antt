use Rattle.std.proofs.Common.{ap, sym, ◌∙◌}
use Rattle.std.specs.Prelude.{not}
use Rattle.net_graph.specs.SeenSteps.{seen_group}
use Rattle.svf_audit.specs.LastParts.{looked_for, seen_last}
use Rattle.svf_audit.proofs.Looking.{length-expected}
use Rattle.svf_audit.proofs.Numbering.{path_countable, reads_countable, reads_none}
use Rattle.svf_audit.proofs.scan.does_reads.Goals as goal

pub returns-then-is_empty-clause-done : goal.returns-then-is_empty-clause-done
returns-then-is_empty-clause-done c =
    let kept = c.args.kept.now in
    let long = length-expected kept.len c.args.tdo.now (seen_last kept).mask c.requires.tdo in
    ap not c.compares_some.ensures ∙ reads_none
    (looked_for kept c.args.tdo.now) c.args.bits.now c.args.path.now c.args.group.now.reads.items
    (long ∙ sym c.requires.fits) (c.is_empty.ensures.0 c.if-is_empty.true)

pub number_reads-requires-clause-bits : goal.number_reads-requires-clause-bits
number_reads-requires-clause-bits c =
    reads_countable c.args.net.now (seen_group c.args.group.now) c.as_slice-reads.result.now c.requires.net
    c.requires.group c.as_slice-reads.ensures

pub number_registers-requires-clause-bits : goal.number_registers-requires-clause-bits
number_registers-requires-clause-bits c =
    path_countable c.args.net.now c.args.path.now c.requires.net c.requires.path
