use Rattle.ij_io.proofs.Adding.{at_refusal, adds_front, adds_then_part}
use Rattle.net_graph.specs.SeenSteps.{seen_group}
use Rattle.retargeter.specs.Writing.{WritesRoundPart}
use Rattle.retargeter.proofs.rounds.put_marked.Goals as goal

pub returns-in_err-put_comment-clause-part : goal.returns-in_err-put_comment-clause-part
returns-in_err-put_comment-clause-part g c =
    let part : WritesRoundPart c.args.net.now c.args.tree.now c.args.holds.now c.args.apply c.args.round
    (seen_group c.args.group.now) (g.K.Sink.taken c.args.k.now) (g.K.Sink.taken c.put_comment.new.k) =
    λ plans a. adds_front _ c.in_err-put_comment.ensures.part in
    at_refusal _ part

pub returns-in_err-put_group-clause-part : goal.returns-in_err-put_group-clause-part
returns-in_err-put_group-clause-part g c =
    let part : WritesRoundPart c.args.net.now c.args.tree.now c.args.holds.now c.args.apply c.args.round
    (seen_group c.args.group.now) (g.K.Sink.taken c.args.k.now) (g.K.Sink.taken c.put_group.new.k) =
    λ plans a. adds_then_part c.in_ok-put_comment.ensures.whole (c.in_err-put_group.ensures.part plans a) in
    at_refusal _ part
