use Rattle.std.proofs.Common.{ap, ◌∙◌}
use Rattle.std.specs.List.{flat_map}
use Rattle.ij_io.proofs.Adding.{whole_as, part_as}
use Rattle.table_file.specs.Tables.{seen_table}
use Rattle.bench_file.specs.Written.{table_text}
use Rattle.table_writer.proofs.Pieced.{fused}
use Rattle.table_writer.proofs.tables.put_all_blocks.Goals as goal

pub returns-clause-whole : goal.returns-clause-whole
returns-clause-whole g c =
    whole_as c.put_blocks.result _ _ (ap (flat_map (λ x. table_text (seen_table x))) c.as_slice.ensures
    ∙ fused (table_text) seen_table _) c.put_blocks.ensures.whole

pub returns-clause-part : goal.returns-clause-part
returns-clause-part g c =
    part_as c.put_blocks.result _ _ (ap (flat_map (λ x. table_text (seen_table x))) c.as_slice.ensures
    ∙ fused (table_text) seen_table _) c.put_blocks.ensures.part
