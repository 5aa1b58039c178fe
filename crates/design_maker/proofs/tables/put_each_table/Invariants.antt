use Rattle.std.proofs.Common.{◌≡◌, ◌+◌, ◌++◌, drop}
use Rattle.design_maker.specs.Numbered.{numbered}
use Rattle.design_maker.specs.Tables.{instrument_table}
use Rattle.design_maker.proofs.tables.put_each_table.Given as goal

abbrev pub invariant-loop-i : goal.invariant-loop-i
invariant-loop-i l = l.tables ++ numbered instrument_table (l.i + 1) (drop l.i l.instruments.items)
    ≡ l.fn.tables ++ numbered instrument_table 1 l.instruments.items
