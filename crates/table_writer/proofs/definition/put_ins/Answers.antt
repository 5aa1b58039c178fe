use Rattle.std.proofs.Common.{ap, ◌∙◌}
use Rattle.std.specs.List.{flat_map}
use Rattle.ij_io.proofs.Adding.{whole_as, part_as}
use Rattle.instruments.specs.Seen.{seen_port}
use Rattle.bench_file.specs.Written.{input_text}
use Rattle.table_writer.proofs.Pieced.{fused}
use Rattle.table_writer.proofs.definition.put_ins.Goals as goal

pub returns-clause-whole : goal.returns-clause-whole
returns-clause-whole g c =
    whole_as c.put_inputs.result _ _ (ap (flat_map (λ x. input_text (seen_port x))) c.as_slice.ensures
    ∙ fused (input_text) seen_port _) c.put_inputs.ensures.whole

pub returns-clause-part : goal.returns-clause-part
returns-clause-part g c =
    part_as c.put_inputs.result _ _ (ap (flat_map (λ x. input_text (seen_port x))) c.as_slice.ensures
    ∙ fused (input_text) seen_port _) c.put_inputs.ensures.part
