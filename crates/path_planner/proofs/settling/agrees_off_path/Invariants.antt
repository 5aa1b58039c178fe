use Rattle.std.proofs.Common.{◌≡◌, drop}
use Rattle.path_planner.specs.Settling as settling
use Rattle.path_planner.proofs.settling.agrees_off_path.Given as goal

abbrev pub invariant-loop-i : goal.invariant-loop-i
invariant-loop-i l =
    settling.agrees_off_path l.holds l.path (drop l.i l.select)
    (drop l.i l.value.value.items) (drop l.i l.value.care.items)
    ≡ settling.agrees_off_path l.holds l.path l.select l.value.value.items l.value.care.items
