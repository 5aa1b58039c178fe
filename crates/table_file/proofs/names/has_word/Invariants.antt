use Rattle.std.proofs.Common.{◌≡◌, map, drop}
use Rattle.instruments.specs.Seen.{seen_word}
use Rattle.table_file.specs.Tables.{stands_in}
use Rattle.table_file.proofs.names.has_word.Given as goal

abbrev pub invariant-loop-d : goal.invariant-loop-d
invariant-loop-d l =
    stands_in l.name (map (λ d. d.name) (map seen_word (drop l.d-index l.words)))
    ≡ stands_in l.name (map (λ d. d.name) (map seen_word l.words))
