use Rattle.std.proofs.Common.{◌≡◌, ◌-◌, ◌++◌}
use Rattle.nest_check.specs.Tables.{levels_out}
use Rattle.nest_check.proofs.tables.Tables.levels_out.Given as goal

abbrev pub invariant-loop-step : goal.invariant-loop-step
invariant-loop-step l =
    l.levels.items ++ levels_out (l.from - l._step) l.self.met.items l.here
    ≡ levels_out l.from l.self.met.items l.from
