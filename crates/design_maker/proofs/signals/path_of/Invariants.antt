use Rattle.std.proofs.Common.{◌≡◌, ◌++◌, map, take}
use Rattle.icl_lexer.specs.Views.{bytes_of}
use Rattle.design_maker.proofs.signals.path_of.Given as goal

abbrev pub invariant-loop-word : goal.invariant-loop-word
invariant-loop-word l = map bytes_of l.path.items
    ≡ map (λ word. word.now) (take 1 l.words ++ take l.word-index l.word-items)
