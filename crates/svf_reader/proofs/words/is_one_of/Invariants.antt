use Rattle.std.proofs.Common.{◌≡◌, drop, map}
use Rattle.svf_reader.specs.Commands.{is_one_of}
use Rattle.svf_reader.proofs.words.is_one_of.Given as goal

abbrev pub invariant-loop-name : goal.invariant-loop-name
invariant-loop-name l = is_one_of (map (λ name. name.now) (drop l.name-index l.names)) l.word
    ≡ is_one_of (map (λ name. name.now) l.names) l.word
