use Rattle.std.proofs.Common.{◌≡◌, ◌++◌, map}
use Rattle.std.specs.Option.{option_map}
use Rattle.table_lines.specs.Said.{sets}
use Rattle.table_lines.specs.SeenSaid.{seen_set}
use Rattle.table_lines.specs.Parted.{part_list, words_after}
use Rattle.table_lines.proofs.said.sets.Given as goal

abbrev pub invariant-loop-all : goal.invariant-loop-all
invariant-loop-all l =
    option_map (λ xs. map seen_set l.all.items ++ xs) (sets l.second (part_list l.part))
    ≡ sets l.second (part_list l.fn.first)

abbrev pub decreases-loop-all : goal.decreases-loop-all
decreases-loop-all l = words_after l.part.after
