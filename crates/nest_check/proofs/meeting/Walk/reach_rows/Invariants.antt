use Rattle.std.proofs.Common.{◌≡◌, take, true}
use Rattle.std.specs.Prelude.{All}
use Rattle.nest_check.specs.Flags as flags
use Rattle.nest_check.proofs.meeting.Walk.reach_rows.Given as goal

abbrev pub invariant-loop-row : goal.invariant-loop-row
invariant-loop-row l =
    flags.IsWalk l.net (flags.walked l.self)
    × flags.IsFurther (flags.walked l.fn.self) (flags.walked l.self)
    × All (λ row. flags.is_flagged (flags.items l.self.flags) row.from ≡ true) (take l.row-index l.row-items)
