use Rattle.instruments.specs.Seen.{SeenWord, seen_word}
use Rattle.instruments.specs.Models.{IsWord}
use Rattle.instruments.proofs.Places.{seen_at, holds_at}
use Rattle.table_writer.proofs.names.word_width.Goals as goal

pub returns-then-k-len-clause-value : goal.returns-then-k-len-clause-value
returns-then-k-len-clause-value c =
    seen_at (λ (d : SeenWord). d.width) seen_word c.args.m.now.words.items c.args.k c.get.result.now 0
    (rw c.len.ensures at c.if-k-len.true) c.get.ensures

pub returns-then-k-len-clause-few : goal.returns-then-k-len-clause-few
returns-then-k-len-clause-few c =
    let word = holds_at IsWord seen_word c.args.m.now.words.items c.args.k c.get.result.now
    (rw c.len.ensures at c.if-k-len.true) c.get.ensures c.requires.words in
    word.width.few
