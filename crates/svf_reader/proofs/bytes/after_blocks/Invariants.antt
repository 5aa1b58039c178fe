use Rattle.std.proofs.Common.{◌≡◌, ◌+◌, ◌≤◌, length, false}
use Rattle.svf_reader.specs.Reading.{run_length}
use Rattle.svf_reader.proofs.bytes.after_blocks.Given as goal

abbrev pub invariant-loop-rest : goal.invariant-loop-rest
invariant-loop-rest l = record {
  value : run_length l.class false l.fn.text + length l.rest
      ≡ length l.fn.text + run_length l.class false l.rest;
  within : length l.rest ≤ length l.fn.text;
}

abbrev pub decreases-loop-rest : goal.decreases-loop-rest
decreases-loop-rest l = length l.rest
