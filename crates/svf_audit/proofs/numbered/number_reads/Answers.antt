use Rattle.std.proofs.Common.{arith}
use Rattle.svf_audit.proofs.Numbering.{item_next, item_there}
use Rattle.svf_audit.proofs.numbered.number_reads.Goals as goal

pub mark_next-requires-clause-there : goal.mark_next-requires-clause-there
mark_next-requires-clause-there c = item_there (λ r. r.bit) c.args.net.now c.loop-i.marks c.args.reads.now
    c.loop-i.i _ c.requires.bits (omega arith) c.loop-i.invariant

pub loop-i-preserved : goal.loop-i-preserved
loop-i-preserved c = item_next (λ r. r.bit) c.args.net.now c.loop-i.marks c.mark_next.new.marks
    c.args.reads.now c.loop-i.i _ c.requires.bits
    (omega arith) c.mark_next.ensures.numbered c.loop-i.invariant
