-- What is written so far, whatever the plans of the rounds are.
use Rattle.std.proofs.Common.{◌≡◌, ◌≤◌, suc}
use Rattle.path_planner.specs.Scannable.{IsScannable}
use Rattle.scan_packer.specs.HeldPaths.{HasPathRoom, IsHeldPath}
use Rattle.retargeter.specs.Room.{HasScanRoom}
use Rattle.retargeter.proofs.Going.{Go}
use Rattle.retargeter.proofs.rounds.put_rounds.Given as goal

abbrev pub invariant-loop-group : goal.invariant-loop-group
invariant-loop-group g l =
    record {
      go : Go l.net l.tree l.apply l.fn.holds l.rounds
          (g.K.Sink.taken l.fn.k) l.group-index l.holds (g.K.Sink.taken l.k);
      round : l.round ≡ suc l.group-index;
      scannable : IsScannable l.net l.holds;
      path : IsHeldPath l.net l.holds l.path;
      path_room : HasPathRoom l.net l.path;
      room : HasScanRoom l.net l.buffers;
      later : g.K.Sink.faults l.fn.k ≤ g.K.Sink.faults l.k;
    }
