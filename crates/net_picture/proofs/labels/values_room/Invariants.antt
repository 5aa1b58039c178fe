use Rattle.std.proofs.Common.{◌≡◌, drop}
use Rattle.net_picture.specs.Labels.{values_room}
use Rattle.net_picture.proofs.labels.values_room.Given as goal

abbrev pub invariant-loop-i : goal.invariant-loop-i
invariant-loop-i l = l.room ≡ values_room (drop l.i l.rows)
