use Rattle.std.proofs.Common.{◌≡◌, ◌≤◌, drop}
use Rattle.std.specs.Prelude.{All}
use Rattle.nest_check.specs.Tables.{pass, table, table_of}
use Rattle.nest_check.proofs.tables.tables_of.Given as goal

abbrev pub invariant-loop-i : goal.invariant-loop-i
invariant-loop-i l =
    All (λ a. a.level.begun ≤ l.i) l.tables.met.items
    × (pass (table_of l.tables) (drop l.i l.marks) ≡ table l.net l.marks)
