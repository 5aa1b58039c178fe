use Rattle.std.proofs.Common.{◌≡◌, ◌+◌, suc, refl, arith}
use Rattle.headline.specs.Rounds.{IsPlannable}
use Rattle.run_report.proofs.Going.{go_on}
use Rattle.net_graph.proofs.Groups.{seen_next}
use Rattle.run_report.proofs.scans.note_rounds_reads.Goals as goal

pub note_group_reads-requires-clause-group : goal.note_group_reads-requires-clause-group
note_group_reads-requires-clause-group c =
    seen_next (IsPlannable c.args.net.now c.args.tree.now) c.args.rounds.now c.group-item.result
    c.loop-group.group-index c.requires.groups c.loop-group-test.true c.group-item.is

pub loop-group-preserved : goal.loop-group-preserved
loop-group-preserved c =
    let next : c.loop-group.group-index + 1 ≡ suc c.loop-group.group-index = omega arith in
    let more = c.in_ok-now.ensures.few in
    let few = c.loop-group.invariant.few in
    record {
      go = go_on c.args.net.now c.args.tree.now c.args.holds.now c.args.rounds.now c.args.scans
          c.args.places.now.items c.loop-group.group-index _ c.loop-group.now c.in_ok-now.field-0 _
          c.loop-group.holds c.note_group_reads.new.holds c.loop-group.places.items
          c.note_group_reads.new.places.items
          c.group-item.result c.loop-group.invariant.go c.loop-group-test.true c.group-item.is next refl
          c.in_ok-now.ensures.places c.in_ok-now.ensures.scans c.in_ok-now.ensures.holds;
      few = omega (arith, few, more);
      scannable = c.in_ok-now.ensures.scannable;
      room = c.note_group_reads.ensures.room;
    }
