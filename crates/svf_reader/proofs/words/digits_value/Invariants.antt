use Rattle.std.proofs.Common.{◌≡◌, ◌<◌, ◌*◌, ◌^◌, drop}
use Rattle.svf_reader.specs.Commands.{number_from}
use Rattle.svf_reader.proofs.words.digits_value.Given as goal

abbrev pub invariant-loop-b : goal.invariant-loop-b
invariant-loop-b l = record {
  rest : number_from l.n (drop l.b-index l.word)
      ≡ number_from 0 l.word;
  fits : l.n < 256 * 16 ^ l.b-index;
}
