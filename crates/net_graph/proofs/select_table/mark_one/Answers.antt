use Rattle.std.proofs.Common.{sym, subst}
use Rattle.net_graph.specs.Marks.{HasMark, Marks}
use Rattle.net_graph.proofs.MarkedSelecting.{marked_one}
use Rattle.net_graph.proofs.select_table.mark_one.Goals as goal

pub returns-clause-marked : goal.returns-clause-marked
returns-clause-marked c = λ b. marked_one c.marks_law.ensures.set c.marks_law.ensures.others c.args.marks.now
    c.set.new.self c.args.bit b c.requires c.set.ensures

pub returns-clause-there : goal.returns-clause-there
returns-clause-there c = λ b h. let P : Marks → Type 0 = λ m. HasMark m b in
    subst P (sym c.set.ensures) (c.marks_law.ensures.bits c.args.marks.now c.args.bit b 1 h)
