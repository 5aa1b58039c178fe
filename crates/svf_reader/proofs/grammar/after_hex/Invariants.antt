use Rattle.std.proofs.Common.{◌≡◌, length, false}
use Rattle.svf_reader.specs.Commands.{after_hex}
use Rattle.svf_reader.specs.Reading.{words_of}
use Rattle.svf_reader.proofs.grammar.after_hex.Given as goal

abbrev pub invariant-loop-next : goal.invariant-loop-next
invariant-loop-next l = after_hex l.some (words_of l.text) ≡ after_hex false (words_of l.fn.text)

abbrev pub decreases-loop-next : goal.decreases-loop-next
decreases-loop-next l = length l.text
