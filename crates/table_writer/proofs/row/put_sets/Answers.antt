use Rattle.std.specs.Prelude.{codes}
use Rattle.ij_io.proofs.Adding.{whole_as, part_as}
use Rattle.instruments.specs.Seen.{seen_model}
use Rattle.bench_file.specs.Written.{set_text}
use Rattle.table_writer.proofs.Pieced.{first_is}
use Rattle.std.proofs.lemmas.List.{get_or_default}
use Rattle.table_writer.proofs.row.put_sets.Goals as goal

pub returns-in-len1-up-clause-whole : goal.returns-in-len1-up-clause-whole
returns-in-len1-up-clause-whole g c =
    whole_as c.put_first_sets.result _ _ (first_is (set_text (seen_model c.args.m.now)) (codes ", ")
    c.args.sets.now _ c.in-len1-up.len_at_least (get_or_default _ _ _ _ c.in-len1-up.len_at_least))
    c.put_first_sets.ensures.whole

pub returns-in-len1-up-clause-part : goal.returns-in-len1-up-clause-part
returns-in-len1-up-clause-part g c =
    part_as c.put_first_sets.result _ _ (first_is (set_text (seen_model c.args.m.now)) (codes ", ")
    c.args.sets.now _ c.in-len1-up.len_at_least (get_or_default _ _ _ _ c.in-len1-up.len_at_least))
    c.put_first_sets.ensures.part
