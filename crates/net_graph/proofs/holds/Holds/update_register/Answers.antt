use Rattle.net_graph.proofs.HeldSteps.{set_part}
use Rattle.net_graph.proofs.holds.Holds.update_register.Goals as goal

pub returns : goal.returns
returns c =
    set_part (λ bits. bits.items) c.self.inside.regs.items c.args.self.now c.args.reg c.args.at
    c.index_mut.result.now c.part_into.new.to c.args.chain.now.items c.self.view_is c.requires.there
    c.index_mut.ensures.value c.part_into.ensures.items
