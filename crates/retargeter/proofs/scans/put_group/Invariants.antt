-- The scans so far open the way to the group, and whatever plans go on from here go after theirs.
use Rattle.std.proofs.Common.{◌-◌, ◌≤◌}
use Rattle.net_graph.specs.SeenSteps.{seen_group}
use Rattle.net_tree.specs.Needs.{group_depth}
use Rattle.path_planner.specs.Openings.{IsOpeningFor}
use Rattle.scan_packer.specs.HeldPaths.{HasPathRoom, IsHeldPath}
use Rattle.retargeter.specs.Room.{HasScanRoom}
use Rattle.retargeter.proofs.Opened.{Opened}
use Rattle.retargeter.proofs.scans.put_group.Given as goal

abbrev pub invariant-opening : goal.invariant-opening
invariant-opening g l =
    record {
      opened : Opened l.net l.tree (seen_group l.group) l.fn.holds (g.K.Sink.taken l.fn.k)
          l.scans l.holds (g.K.Sink.taken l.k);
      plans : IsOpeningFor l.net l.tree (seen_group l.group) l.plans;
      path : IsHeldPath l.net l.holds l.path;
      path_room : HasPathRoom l.net l.path;
      room : HasScanRoom l.net l.buffers;
      later : g.K.Sink.faults l.fn.k ≤ g.K.Sink.faults l.k;
    }

abbrev pub decreases-opening : goal.decreases-opening
decreases-opening g l = group_depth l.tree (seen_group l.group) - l.scans
