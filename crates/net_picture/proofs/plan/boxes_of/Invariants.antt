use Rattle.std.proofs.Common.{◌≡◌}
use Rattle.std.specs.Prelude.{map}
use Rattle.std.specs.List.{range_with_len}
use Rattle.net_picture.specs.Labels.{box_width}
use Rattle.net_picture.proofs.plan.boxes_of.Given as goal

abbrev pub invariant-loop-reg : goal.invariant-loop-reg
invariant-loop-reg l = l.boxes.items ≡ map (box_width l.net) (range_with_len 0 l.reg)
