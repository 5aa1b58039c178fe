use Rattle.std.proofs.Common.{◌≡◌, length, take}
use Rattle.instruments.specs.Arrays.{StandFor}
use Rattle.instruments.specs.OnNetwork.{port_numbers}
use Rattle.instruments.proofs.runner.inputs_of.Given as goal

abbrev pub invariant-loop-i : goal.invariant-loop-i
invariant-loop-i l = record {
  wide : length l.numbers ≡ 16;
  stand : StandFor l.numbers (take l.i (port_numbers l.holds l.inst));
}
