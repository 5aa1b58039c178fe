use Rattle.std.proofs.Common.{◌≡◌, ◌++◌, map, drop}
use Rattle.std.specs.Prelude.{filter}
use Rattle.std.specs.List.{enumerate_from}
use Rattle.icl_references.specs.Roles.{seen_part, seen_cell}
use Rattle.icl_signals.specs.Moves.{entry_of, entries_in}
use Rattle.icl_signals.specs.Kinds.{test_of}
use Rattle.icl_signals.specs.TrueEnds.{seen_entry}
use Rattle.icl_signals.proofs.entries.add_from_cell.Given as goal

abbrev pub invariant-loop-what : goal.invariant-loop-what
invariant-loop-what l = map seen_entry l.all.items ++ filter (λ e. test_of l.kind e.what.role)
    (map (entry_of l.number) (enumerate_from l.part (map seen_part (drop l.what-index l.what-items))))
    ≡ map seen_entry l.fn.found.items
    ++ filter (λ e. test_of l.kind e.what.role) (entries_in (l.number, seen_cell l.fn.cell))
