use Rattle.std.proofs.Common.{◌≡◌, ◌+◌, suc, arith}
use Rattle.ij_io.proofs.Adding.{at_refusal}
use Rattle.headline.specs.Rounds.{IsPlannable}
use Rattle.retargeter.proofs.Going.{go_on, refused}
use Rattle.net_graph.proofs.Groups.{seen_next}
use Rattle.retargeter.proofs.rounds.put_rounds.Goals as goal

pub put_marked-requires-clause-group : goal.put_marked-requires-clause-group
put_marked-requires-clause-group g c =
    seen_next (IsPlannable c.args.net.now c.args.tree.now) c.args.rounds.now c.group-item.result
    c.loop-group.group-index c.requires.groups c.loop-group-test.true c.group-item.is

pub returns-in_err-put_marked-clause-part : goal.returns-in_err-put_marked-clause-part
returns-in_err-put_marked-clause-part g c =
    at_refusal _ (refused c.args.net.now c.args.tree.now c.args.apply c.args.holds.now c.args.rounds.now
    (g.K.Sink.taken c.args.k.now) c.loop-group.group-index c.loop-group.round c.loop-group.holds
    (g.K.Sink.taken c.loop-group.k)
    (g.K.Sink.taken c.put_marked.new.k) c.group-item.result c.loop-group.invariant.go
    c.loop-group-test.true c.group-item.is c.loop-group.invariant.round c.in_err-put_marked.ensures.part)

pub loop-group-preserved : goal.loop-group-preserved
loop-group-preserved g c =
    let next : c.loop-group.group-index + 1 ≡ suc c.loop-group.group-index = omega arith in
    record {
      go = go_on c.args.net.now c.args.tree.now c.args.apply c.args.holds.now c.args.rounds.now
          (g.K.Sink.taken c.args.k.now) c.loop-group.group-index c.loop-group.round _ c.loop-group.holds
          c.put_marked.new.holds (g.K.Sink.taken c.loop-group.k) (g.K.Sink.taken c.put_marked.new.k)
          c.group-item.result c.loop-group.invariant.go c.loop-group-test.true c.group-item.is
          c.loop-group.invariant.round next c.in_ok-put_marked.ensures.whole c.in_ok-put_marked.ensures.holds;
      round = omega (arith, c.loop-group.invariant.round);
      scannable = c.put_marked.ensures.scannable;
      path = c.put_marked.ensures.path;
      path_room = c.put_marked.ensures.path_room;
      room = c.put_marked.ensures.room;
      later = omega (arith, c.put_marked.ensures.cause.later, c.loop-group.invariant.later);
    }
