use Rattle.std.proofs.Common.{◌≡◌, map, take}
use Rattle.instruments.specs.Seen.{seen_word}
use Rattle.bench_file.proofs.copying.words_copy.Given as goal

abbrev pub invariant-loop-d : goal.invariant-loop-d
invariant-loop-d l = map seen_word l.all.items ≡ map seen_word (take l.d-index l.words)
