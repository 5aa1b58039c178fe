use Rattle.std.proofs.Common.{sym}
use Rattle.ij_io.specs.Words.{words_text}
use Rattle.report.proofs.totals.put_size.Goals as goal

pub returns-clause-whole : goal.returns-clause-whole
unfolding words_text
returns-clause-whole g c = rw (
  sym c.from.ensures,
  sym c.from-2.ensures,
  sym c.from-3.ensures,
  sym c.from-4.ensures,
) c.put_words.ensures.whole

pub returns-clause-part : goal.returns-clause-part
unfolding words_text
returns-clause-part g c = rw (
  sym c.from.ensures,
  sym c.from-2.ensures,
  sym c.from-3.ensures,
  sym c.from-4.ensures,
) c.put_words.ensures.part
