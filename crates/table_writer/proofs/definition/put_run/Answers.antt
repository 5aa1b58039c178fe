use Rattle.std.proofs.Common.{ap, ◌∙◌}
use Rattle.std.specs.List.{flat_map}
use Rattle.ij_io.proofs.Adding.{whole_as, part_as}
use Rattle.std.specs.Prelude.{codes}
use Rattle.instruments.specs.Seen.{seen_row, seen_model}
use Rattle.bench_file.specs.Written.{row_text}
use Rattle.table_writer.proofs.Pieced.{fused}
use Rattle.table_writer.proofs.definition.put_run.Goals as goal

pub returns-clause-whole : goal.returns-clause-whole
returns-clause-whole g c =
    whole_as c.put_rows.result _ _
    (ap (flat_map (λ x. row_text (seen_model c.args.m.now) (codes "run") (seen_row x))) c.as_slice.ensures
    ∙ fused (row_text (seen_model c.args.m.now) (codes "run")) seen_row _) c.put_rows.ensures.whole

pub returns-clause-part : goal.returns-clause-part
returns-clause-part g c =
    part_as c.put_rows.result _ _
    (ap (flat_map (λ x. row_text (seen_model c.args.m.now) (codes "run") (seen_row x))) c.as_slice.ensures
    ∙ fused (row_text (seen_model c.args.m.now) (codes "run")) seen_row _) c.put_rows.ensures.part
