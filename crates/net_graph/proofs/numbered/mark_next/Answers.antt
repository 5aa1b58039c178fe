use Rattle.std.proofs.Common.{◌+◌, arith}
use Rattle.net_graph.proofs.Numbering.{one_more}
use Rattle.net_graph.proofs.numbered.mark_next.Goals as goal

pub returns-clause-numbered : goal.returns-clause-numbered
returns-clause-numbered c = λ bits numbered long differ.
    one_more c.marks_law.ensures.set c.marks_law.ensures.others c.marks_law.ensures.bits c.args._net.now
    c.args.marks.now c.set.new.self c.args.bit
    (c.args.count + 1) c.requires.there c.set.ensures bits numbered (omega (arith, long)) differ
