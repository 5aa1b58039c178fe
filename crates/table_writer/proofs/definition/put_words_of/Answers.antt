use Rattle.std.proofs.Common.{ap, ◌∙◌}
use Rattle.std.specs.List.{flat_map}
use Rattle.ij_io.proofs.Adding.{whole_as, part_as}
use Rattle.instruments.specs.Seen.{seen_word}
use Rattle.bench_file.specs.Written.{word_text}
use Rattle.table_writer.proofs.Pieced.{fused}
use Rattle.table_writer.proofs.definition.put_words_of.Goals as goal

pub returns-clause-whole : goal.returns-clause-whole
returns-clause-whole g c =
    whole_as c.put_all_words.result _ _ (ap (flat_map (λ x. word_text (seen_word x))) c.as_slice.ensures
    ∙ fused (word_text) seen_word _) c.put_all_words.ensures.whole

pub returns-clause-part : goal.returns-clause-part
returns-clause-part g c =
    part_as c.put_all_words.result _ _ (ap (flat_map (λ x. word_text (seen_word x))) c.as_slice.ensures
    ∙ fused (word_text) seen_word _) c.put_all_words.ensures.part
