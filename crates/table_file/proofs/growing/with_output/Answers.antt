use Rattle.instruments.specs.Seen.{seen_model}
use Rattle.table_lines.specs.SeenSaid.{seen_slice}
use Rattle.table_file.proofs.Within.{few_slice}
use Rattle.table_file.proofs.growing.with_output.Goals as goal

pub out_said-requires-clause-few : goal.out_said-requires-clause-few
out_said-requires-clause-few c =
    few_slice (seen_model c.args.m.now) c.args.name.now
    (seen_slice c.args.slice.now) c.requires.small.narrow c.requires.width
