use Rattle.std.proofs.Common.{◌≡◌, drop, map}
use Rattle.svf_reader.specs.Commands.{words_are}
use Rattle.svf_reader.specs.Reading.{words_of}
use Rattle.svf_reader.proofs.words.words_are.Given as goal

abbrev pub invariant-loop-name : goal.invariant-loop-name
invariant-loop-name l = words_are (map (λ name. name.now) (drop l.name-index l.names)) (words_of l.text)
    ≡ words_are (map (λ name. name.now) l.names) (words_of l.fn.text)
