use Rattle.std.proofs.Common.{◌≡◌, map}
use Rattle.table_lines.specs.Said.{conds_sets}
use Rattle.table_lines.specs.SeenSaid.{seen_cond}
use Rattle.table_lines.specs.Parted.{part_list, with_conds, words_after}
use Rattle.table_lines.proofs.said.conds_sets.Given as goal

abbrev pub invariant-loop-conds : goal.invariant-loop-conds
invariant-loop-conds l =
    with_conds (map seen_cond l.conds.items) (conds_sets l.second l.change (part_list l.part))
    ≡ conds_sets l.second l.change (part_list l.fn.first)

abbrev pub decreases-loop-conds : goal.decreases-loop-conds
decreases-loop-conds l = words_after l.part.after
