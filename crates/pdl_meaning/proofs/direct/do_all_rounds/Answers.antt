use Rattle.std.proofs.Common.{◌≡◌, arith, ◌∙◌, ap, sym, subst, List}
use Rattle.instruments.specs.Machine.{count_log}
use Rattle.instruments.specs.declared.model.Model.{Model}
use Rattle.net_graph.specs.SeenSteps.{seen_group}
use Rattle.net_graph.specs.Steps.{IsGroup}
use Rattle.net_graph.specs.declared.net.Net.{Net}
use Rattle.pdl_meaning.specs.Direct.{do_group}
use Rattle.pdl_meaning.specs.States.{with_reads}
use Rattle.instruments.specs.Runners.{machines_of}
use Rattle.pdl_meaning.proofs.Rounds.{reads_next, rounds_next}
use Rattle.net_graph.proofs.Groups.{seen_next}
use Rattle.pdl_meaning.proofs.direct.do_all_rounds.Goals as goal

pub do_round-requires-clause-group : goal.do_round-requires-clause-group
do_round-requires-clause-group c =
    subst (λ (n : Net). IsGroup n (seen_group c.group-item.result)) (sym c.loop-group.invariant.net)
    (seen_next (IsGroup c.args.values.now.net) c.args.rounds.now c.group-item.result c.loop-group.group-index
    c.requires.groups c.loop-group-test.true c.group-item.is)

pub do_round-requires-clause-room : goal.do_round-requires-clause-room
do_round-requires-clause-room c =
    omega (
      arith,
      c.loop-group.invariant.room,
      reads_next c.args.rounds.now c.group-item.result
          c.loop-group.group-index c.loop-group-test.true c.group-item.is,
    )

pub loop-group-preserved : goal.loop-group-preserved
loop-group-preserved c =
    let v = c.loop-group.invariant in
    let first = c.args.values.now in
    let g = c.group-item.result in
    let d = with_reads c.loop-group.values c.loop-group.reads.items in
    let done : with_reads c.do_round.new.values c.do_round.new.reads.items
    ≡ do_group count_log first.net (machines_of first.models) d (seen_group g) =
    c.do_round.ensures.state
    ∙ ap (λ (n : Net). do_group count_log n (machines_of c.loop-group.values.models) d (seen_group g)) v.net
    ∙ ap (λ (ms : List Model). do_group count_log first.net (machines_of ms) d (seen_group g)) v.models in
    record {
      net = c.do_round.ensures.net ∙ v.net;
      models = c.do_round.ensures.models ∙ v.models;
      room = omega (
        arith,
        v.room,
        c.do_round.ensures.room,
        reads_next c.args.rounds.now g c.loop-group.group-index c.loop-group-test.true c.group-item.is,
      );
      state = rounds_next first.net (machines_of first.models) c.args.rounds.now g c.loop-group.group-index d
          _ c.loop-group-test.true c.group-item.is done ∙ v.state;
    }
