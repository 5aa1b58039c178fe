use Rattle.std.proofs.Common.{◌∙◌, arith}
use Rattle.ij_io.proofs.Adding.{at_refusal}
use Rattle.net_graph.specs.Steps.{IsGroup}
use Rattle.direct_report.proofs.Going.{go_on, refused, whole, state, counts}
use Rattle.net_graph.proofs.Groups.{seen_next}
use Rattle.direct_report.proofs.round.play_rounds.Goals as goal

pub play_round-requires-clause-group : goal.play_round-requires-clause-group
play_round-requires-clause-group g c =
    seen_next (IsGroup c.args.net.now) c.args.rounds.now c.group-item.result c.loop-group.group-index
    c.requires.groups c.loop-group-test.true c.group-item.is

pub returns-in_err-told-clause-part : goal.returns-in_err-told-clause-part
returns-in_err-told-clause-part g c d stands =
    let v = c.loop-group.invariant in
    at_refusal _ (refused c.args.net.now c.args.values.now.models c.args.values.now c.args.rounds.now
    (g.K.Sink.taken c.args.k.now) c.loop-group.group-index c.loop-group.values c.loop-group.reads
    c.loop-group.differs (g.K.Sink.taken c.loop-group.k) v.go c.group-item.result
    c.loop-group-test.true c.group-item.is v.net v.models
    (g.K.Sink.taken c.play_round.new.k) c.in_err-told.ensures.part d stands)

pub loop-group-preserved : goal.loop-group-preserved
loop-group-preserved g c =
    let v = c.loop-group.invariant in
    let e = c.in_ok-told.ensures in
    record {
      go = go_on c.args.net.now c.args.values.now.models c.args.values.now c.args.rounds.now
          (g.K.Sink.taken c.args.k.now) c.loop-group.group-index c.loop-group.values c.loop-group.reads
          c.loop-group.differs (g.K.Sink.taken c.loop-group.k) v.go c.group-item.result c.loop-group-test.true
          c.group-item.is v.net v.models c.play_round.new.values c.in_ok-told.told.reads
          c.in_ok-told.told.differs (g.K.Sink.taken c.play_round.new.k) e.whole e.state e.reads e.differs;
      net = c.play_round.ensures.net ∙ v.net;
      models = c.play_round.ensures.models ∙ v.models;
      blank = c.play_round.ensures.blank;
      marks = c.play_round.ensures.marks;
      few = omega (arith, v.few, e.few);
      less = omega (arith, v.less, e.less);
      later = omega (arith, c.play_round.ensures.cause.later, v.later);
    }

pub returns-clause-whole : goal.returns-clause-whole
returns-clause-whole g c d stands =
    whole c.args.net.now c.args.values.now.models c.args.values.now c.args.rounds.now (g.K.Sink.taken
    c.args.k.now) c.loop-group.group-index c.loop-group.values c.loop-group.reads c.loop-group.differs
    (g.K.Sink.taken c.loop-group.k) c.loop-group.invariant.go c.loop-group-test.false d stands

pub returns-clause-state : goal.returns-clause-state
returns-clause-state g c d stands =
    state c.args.net.now c.args.values.now.models c.args.values.now c.args.rounds.now (g.K.Sink.taken
    c.args.k.now) c.loop-group.group-index c.loop-group.values c.loop-group.reads c.loop-group.differs
    (g.K.Sink.taken c.loop-group.k) c.loop-group.invariant.go c.loop-group-test.false d stands

pub returns-clause-counts : goal.returns-clause-counts
returns-clause-counts g c d stands =
    counts c.args.net.now c.args.values.now.models c.args.values.now c.args.rounds.now (g.K.Sink.taken
    c.args.k.now) c.loop-group.group-index c.loop-group.values c.loop-group.reads c.loop-group.differs
    (g.K.Sink.taken c.loop-group.k) c.loop-group.invariant.go c.loop-group-test.false d stands
