use Rattle.tap_machine.proofs.Clocks.{pins_are_clocks}
use Rattle.tap_machine.proofs.laws.pins_are_clocks.Goals as goal

pub returns : goal.returns
returns c = pins_are_clocks
