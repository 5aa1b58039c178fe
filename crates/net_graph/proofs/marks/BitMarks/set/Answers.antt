use Rattle.net_graph.proofs.Setting.{set_kept}
use Rattle.net_graph.proofs.marks.BitMarks.set.Goals as goal

pub returns : goal.returns
returns c =
    set_kept (λ marks. marks.items) c.self.inside.regs.items c.args.self.now c.args.bit.reg c.args.bit.pos
    c.index_mut.result.now c.set.new.self c.args.number c.self.view_is c.requires
    c.index_mut.ensures.value c.set.ensures.items
