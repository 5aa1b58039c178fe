use Rattle.std.proofs.Common.{◌≡◌, map, drop}
use Rattle.instruments.specs.Seen.{seen_word}
use Rattle.table_file.specs.Tables.{named_from, named}
use Rattle.table_file.proofs.names.find_word.Given as goal

abbrev pub invariant-loop-i : goal.invariant-loop-i
invariant-loop-i l =
    named_from l.i l.name (map (λ d. d.name) (map seen_word (drop l.i l.words)))
    ≡ named l.name (map (λ d. d.name) (map seen_word l.words))
