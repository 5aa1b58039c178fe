use Rattle.std.proofs.Common.{◌≡◌, map, drop}
use Rattle.icl_lexer.specs.Views.{seen_enum_word}
use Rattle.icl_declarations.specs.Tables.{seen_table}
use Rattle.icl_references.specs.Roles.{seen_word}
use Rattle.icl_elab.specs.FoundParts.{word_of}
use Rattle.icl_declarations.specs.Faults.{each}
use Rattle.icl_declarations.proofs.Each.{more}
use Rattle.icl_elab.proofs.words.words_of.Given as goal

abbrev pub invariant-loop-word : goal.invariant-loop-word
invariant-loop-word l = more (word_of (seen_table l.params) l.at l.wide) (map seen_word l.all.items)
    (map seen_enum_word (drop l.word-index l.words))
    ≡ each (word_of (seen_table l.params) l.at l.wide) (map seen_enum_word l.words)
