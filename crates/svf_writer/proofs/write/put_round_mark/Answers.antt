use Rattle.ij_io.proofs.Adding.{whole_as, part_as}
use Rattle.ij_io.specs.Words.{words_text}
use Rattle.svf_writer.proofs.Texts.{round_is}
use Rattle.svf_writer.proofs.write.put_round_mark.Goals as goal

pub returns-clause-whole : goal.returns-clause-whole
unfolding words_text
returns-clause-whole g c =
    whole_as c.put_words.result _ _ (round_is c.args.n c.args.j) c.put_words.ensures.whole

pub returns-clause-part : goal.returns-clause-part
unfolding words_text
returns-clause-part g c = part_as c.put_words.result _ _ (round_is c.args.n c.args.j) c.put_words.ensures.part
