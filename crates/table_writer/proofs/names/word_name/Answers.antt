use Rattle.std.proofs.Common.{[], ◌∙◌}
use Rattle.instruments.specs.Seen.{SeenWord, seen_word}
use Rattle.instruments.proofs.Places.{seen_at}
use Rattle.table_writer.proofs.names.word_name.Goals as goal

pub returns-then-k-len : goal.returns-then-k-len
returns-then-k-len c =
    c.as_slice.ensures ∙ seen_at (λ (d : SeenWord). d.name) seen_word c.args.m.now.words.items c.args.k
    c.get.result.now [] (rw c.len.ensures at c.if-k-len.true) c.get.ensures
