use Rattle.std.proofs.Common.{◌≡◌, map, take}
use Rattle.icl_lexer.specs.Views.{bytes_of}
use Rattle.design_maker.proofs.signals.names_from_bytes.Given as goal

abbrev pub invariant-loop-word : goal.invariant-loop-word
invariant-loop-word l = map bytes_of l.names.items ≡ map (λ word. word.now) (take l.word-index
    l.words)
