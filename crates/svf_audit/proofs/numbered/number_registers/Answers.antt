use Rattle.std.proofs.Common.{arith}
use Rattle.net_graph.specs.Numbered.{first_bit}
use Rattle.svf_audit.proofs.Numbering.{item_next, item_there}
use Rattle.svf_audit.proofs.numbered.number_registers.Goals as goal

pub mark_next-requires-clause-there : goal.mark_next-requires-clause-there
mark_next-requires-clause-there c = item_there first_bit c.args.net.now c.loop-i.marks c.args.path.now
    c.loop-i.i _ c.requires.bits (omega arith) c.loop-i.invariant

pub loop-i-preserved : goal.loop-i-preserved
loop-i-preserved c = item_next first_bit c.args.net.now c.loop-i.marks c.mark_next.new.marks c.args.path.now
    c.loop-i.i _ c.requires.bits (omega arith) c.mark_next.ensures.numbered c.loop-i.invariant
