use Rattle.std.proofs.Common.{◌+◌, ◌++◌, ◌∙◌, ap, sym, drop, map, List, arith}
use Rattle.net_graph.specs.SeenSteps.{SeenGroup, seen_group}
use Rattle.net_graph.specs.Steps.{IsGroup}
use Rattle.net_graph.proofs.Groups.{left_next, seen_next}
use Rattle.svf_audit.specs.Work.{Group}
use Rattle.least_clocks.specs.Counting.{in_all}
use Rattle.least_clocks.proofs.count.Count.apply.Goals as goal

pub group-requires-clause-group : goal.group-requires-clause-group
group-requires-clause-group c =
    seen_next (IsGroup c.args.net.now) c.args.rounds.now c.group-item.result c.loop-group.group-index
    c.requires.groups c.loop-group-test.true c.group-item.is

pub loop-group-preserved : goal.loop-group-preserved
loop-group-preserved c = record {
  counts = λ left.
      let i = c.loop-group.group-index in
      let rest = map Group (map seen_group (drop (i + 1) c.args.rounds.now)) ++ left in
      c.in_ok-group.ensures.counts rest
      ∙ ap (λ (gs : List SeenGroup). in_all c.args.net.now c.args.tree.now c.args.device.now
      c.loop-group.self (map Group gs ++ left))
      (sym (left_next c.args.rounds.now c.group-item.result i c.loop-group-test.true c.group-item.is))
      ∙ c.loop-group.invariant.counts left;
  few = omega (arith, c.loop-group.invariant.few, c.in_ok-group.ensures.few);
  holds = c.in_ok-group.ensures.holds;
}
