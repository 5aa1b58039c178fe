use Rattle.std.proofs.Common.{◌≡◌, map, length}
use Rattle.svf_reader.specs.Commands.{any_is_one_of}
use Rattle.svf_reader.specs.Reading.{runs_of}
use Rattle.svf_reader.proofs.words.any_is_one_of.Given as goal

abbrev pub invariant-loop-next : goal.invariant-loop-next
invariant-loop-next l = any_is_one_of (map (λ name. name.now) l.names) (runs_of l.text)
    ≡ any_is_one_of (map (λ name. name.now) l.fn.names) (runs_of l.fn.text)

abbrev pub decreases-loop-next : goal.decreases-loop-next
decreases-loop-next l = length l.text
