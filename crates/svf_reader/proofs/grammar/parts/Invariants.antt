use Rattle.std.proofs.Common.{◌≡◌, ◌-◌}
use Rattle.svf_reader.specs.Commands.{parts, no_parts}
use Rattle.svf_reader.specs.Reading.{words_of}
use Rattle.svf_reader.specs.Seen.{seen_parts}
use Rattle.svf_reader.proofs.grammar.parts.Given as goal

abbrev pub invariant-loop : goal.invariant-loop
invariant-loop l = parts (4 - l.counter) (seen_parts l.parts) (words_of l.text)
    ≡ parts 4 no_parts (words_of l.fn.text)
