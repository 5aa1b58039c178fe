use Rattle.std.proofs.Common.{◌≡◌, ◌++◌, map, drop}
use Rattle.std.specs.Prelude.{filter, flat_map}
use Rattle.std.specs.List.{enumerate_from}
use Rattle.icl_references.specs.Roles.{seen_cell, seen_hier}
use Rattle.icl_signals.specs.Moves.{entries_in}
use Rattle.icl_signals.specs.Connecting.{entries_that}
use Rattle.icl_signals.specs.Kinds.{test_of}
use Rattle.icl_signals.specs.TrueEnds.{seen_entry}
use Rattle.icl_signals.proofs.entries.entries_of.Given as goal

abbrev pub invariant-loop-cell : goal.invariant-loop-cell
invariant-loop-cell l = map seen_entry l.all.items ++ filter (λ e. test_of l.kind e.what.role)
    (flat_map entries_in (enumerate_from l.number (map seen_cell (drop l.cell-index l.cell-items))))
    ≡ entries_that (test_of l.kind) (seen_hier l.fn.hier)
