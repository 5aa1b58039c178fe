use Rattle.ij_io.proofs.Adding.{whole_as, part_as}
use Rattle.ij_io.specs.Words.{words_text}
use Rattle.instruments.specs.Seen.{seen_model}
use Rattle.table_writer.proofs.Pieced.{sum_words}
use Rattle.table_writer.proofs.row.put_sum.Goals as goal

pub returns-clause-whole : goal.returns-clause-whole
unfolding words_text
returns-clause-whole g c =
    whole_as c.put_words.result _ _ (sum_words (seen_model c.args.m.now) c.args.from _ _ c.args.sign.now
    c.args.n c.old_mark.ensures c.operand_name.ensures) c.put_words.ensures.whole

pub returns-clause-part : goal.returns-clause-part
unfolding words_text
returns-clause-part g c =
    part_as c.put_words.result _ _ (sum_words (seen_model c.args.m.now) c.args.from _ _ c.args.sign.now
    c.args.n c.old_mark.ensures c.operand_name.ensures) c.put_words.ensures.part
