use Rattle.std.proofs.Common.{ap, ◌∙◌}
use Rattle.std.specs.List.{flat_map}
use Rattle.ij_io.proofs.Adding.{whole_as, part_as}
use Rattle.instruments.specs.Seen.{seen_out, seen_model}
use Rattle.bench_file.specs.Written.{out_text}
use Rattle.table_writer.proofs.Pieced.{fused}
use Rattle.table_writer.proofs.definition.put_outs_of.Goals as goal

pub returns-clause-whole : goal.returns-clause-whole
returns-clause-whole g c =
    whole_as c.put_outs.result _ _ (ap (flat_map (λ x. out_text (seen_model c.args.m.now) (seen_out x)))
    c.as_slice.ensures ∙ fused (out_text (seen_model c.args.m.now)) seen_out _) c.put_outs.ensures.whole

pub returns-clause-part : goal.returns-clause-part
returns-clause-part g c =
    part_as c.put_outs.result _ _ (ap (flat_map (λ x. out_text (seen_model c.args.m.now) (seen_out x)))
    c.as_slice.ensures ∙ fused (out_text (seen_model c.args.m.now)) seen_out _) c.put_outs.ensures.part
