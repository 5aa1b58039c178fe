use Rattle.instruments.specs.Seen.{seen_model}
use Rattle.table_file.proofs.Within.{few_sets}
use Rattle.ij_bits.proofs.Tests.{or_right_false}
use Rattle.table_file.proofs.growing.with_change.Goals as goal

pub row_said-requires-clause-few : goal.row_said-requires-clause-few
row_said-requires-clause-few c =
    few_sets (seen_model c.args.m.now) c.args.row.now.sets.items c.requires.small.narrow
    (or_right_false _ _ c.requires.width)
