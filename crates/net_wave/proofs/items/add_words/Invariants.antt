use Rattle.std.proofs.Common.{◌≡◌, ◌++◌}
use Rattle.net_wave.specs.Vars.{up_to, word_item}
use Rattle.net_wave.proofs.items.add_words.Given as goal

abbrev pub invariant-loop-word : goal.invariant-loop-word
invariant-loop-word l = l.items.items ≡ l.fn.items.items ++ up_to (word_item l.inst) l.word
