use Rattle.std.proofs.Common.{◌≡◌, map, take}
use Rattle.table_lines.specs.Reading.{texts}
use Rattle.table_file.proofs.blocks.names_of.Given as goal

abbrev pub invariant-loop-word : goal.invariant-loop-word
invariant-loop-word l = map (λ name. name.items) l.names.items ≡ texts (take l.word-index l.words)
