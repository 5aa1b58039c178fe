use Rattle.std.proofs.Common.{◌≡◌, drop}
use Rattle.std.specs.List.{list_any}
use Rattle.net_tree.specs.Places.{same_point}
use Rattle.net_picture.proofs.met.is_on_path.Given as goal

abbrev pub invariant-loop-other : goal.invariant-loop-other
invariant-loop-other l =
    list_any (same_point l.point) (drop l.other-index l.met) ≡ list_any (same_point l.point) l.met
