use Rattle.std.proofs.Common.{sym}
use Rattle.net_graph.proofs.Numbering.{is_found, isnt_there, isnt_marked}
use Rattle.net_graph.proofs.numbered.index_of_write.Goals as goal

pub returns-then-same_place : goal.returns-then-same_place
returns-then-same_place c =
    is_found (λ w. w.bit) c.args._net.now c.args.marks.now c.args.writes.now c.args.bit c.in-Some.i _
    c.requires c.in-Some.ensures.some.0 c.in-Some.ensures.some.1 (sym c.if-same_place.ensures)

pub returns-else-same_place : goal.returns-else-same_place
returns-else-same_place c = isnt_there (λ w. w.bit) c.args._net.now c.args.marks.now c.args.writes.now
    c.args.bit c.in-Some.i _ c.requires c.in-Some.ensures.some.1 (sym c.if-same_place.ensures)

pub returns-in-None : goal.returns-in-None
returns-in-None c = isnt_marked (λ w. w.bit) c.args._net.now c.args.marks.now c.args.writes.now
    c.args.bit c.requires c.in-None.ensures.none
