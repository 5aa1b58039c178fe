use Rattle.net_graph.proofs.Numbering.{in_none, in_some}
use Rattle.net_graph.proofs.numbered.is_marked_register.Goals as goal

pub returns-in-Some : goal.returns-in-Some
returns-in-Some c = in_some c.args._net.now c.args.marks.now c.args.registers.now c.args.register c.in-Some.i
    c.requires c.in-Some.ensures.some.0 c.in-Some.ensures.some.1

pub returns-in-None : goal.returns-in-None
returns-in-None c = in_none c.args._net.now c.args.marks.now c.args.registers.now
    c.args.register c.requires c.in-None.ensures.none
